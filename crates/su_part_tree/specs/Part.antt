-- What a tree with stubs stands for, as its callers say it.
use Rattle.std.specs.Prelude.{ℕ, Bool, List}
use Rattle.su_hash_tree.specs.Sort.{Sort}
use Rattle.su_hash_tree.specs.Stands.{Stands, Known, IsWhole, reached, pairs}
use Rattle.su_part_tree.specs.declared.parts.PartTree.{PartTree}
use Rattle.su_part_tree.specs.Loading.{IsLoaded}
use Rattle.su_part_tree.specs.Putting.{IsItemOf}

-- the tree stands for the map with the pairs m
abbrev pub StandsFor : {K V : Type 0} → Sort K V → PartTree K V → List (K × V) → Type 0
StandsFor t p m = Stands t p.root m

-- no stub stands on the key's path
abbrev pub reaches : {K V : Type 0} → (K → List Bool) → K → PartTree K V → Bool
reaches bits k p = reached bits k p.root

-- the pairs that are loaded
abbrev pub loaded : {K V : Type 0} → PartTree K V → List (K × V)
loaded p = pairs p.root

-- no stub stands on the key's path, or the map doesn't have the key
abbrev pub IsKnown : {K V : Type 0} → (K → List Bool) → K → PartTree K V → List (K × V) → Type 0
IsKnown bits k p m = Known bits k p.root m

-- the root's node is loaded
abbrev pub HasRoot : {K V : Type 0} → PartTree K V → Type 0
HasRoot p = IsLoaded p.root

-- all nodes are loaded
abbrev pub HasAll : {K V : Type 0} → PartTree K V → Type 0
HasAll p = IsWhole p.root

-- no node is loaded
abbrev pub HasNone : {K V : Type 0} → PartTree K V → Type 0
HasNone p = ¬ (IsLoaded p.root)

-- s is the item of some node that is loaded
abbrev pub IsItemIn : {K V : Type 0} → Sort K V → PartTree K V → List ℕ → Type 0
IsItemIn t p s = IsItemOf t p.root s
