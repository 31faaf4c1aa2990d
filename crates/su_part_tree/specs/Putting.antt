-- Nodes whose items are put into a source.
use Rattle.std.specs.Prelude.{◌≡◌, ◌⊎◌, ℕ, List}
use Rattle.su_tree.specs.Digest.{empty_item, pair_item, split_item}
use Rattle.su_hash_tree.specs.Sort.{Sort}
use Rattle.su_hash_tree.specs.Stands.{kept}
use Rattle.su_hash_tree.specs.declared.nodes.Node.{Node, Stub, Empty, Leaf, Split'}

-- s is the item of the tree's root, which is loaded
abbrev pub IsOwnItem : {K V : Type 0} → Sort K V → Node K V → List ℕ → Type 0
IsOwnItem t (Stub d) s = ⊥
IsOwnItem t (Empty d) s = s ≡ empty_item
IsOwnItem t (Leaf k v d) s = s ≡ pair_item t.kind (k, v)
IsOwnItem t (Split' p a l b r d) s = s ≡ split_item p (kept l) (kept r)

-- s is the item of some loaded node of the tree
abbrev pub IsItemOf : {K V : Type 0} → Sort K V → Node K V → List ℕ → Type 0
IsItemOf t (Stub d) s = ⊥
IsItemOf t (Empty d) s = s ≡ empty_item
IsItemOf t (Leaf k v d) s = s ≡ pair_item t.kind (k, v)
IsItemOf t (Split' p a l b r d) s =
    (s ≡ split_item p (kept l) (kept r)) ⊎ IsItemOf t l s ⊎ IsItemOf t r s

-- between old and new the source took this item
pub record Took {S : Type 0} (follows : S → S → Type 0) (puts : S → List ℕ → S → Type 0)
    (old new : S) (item : List ℕ) : Type 0 where
  pub before : S
  pub after : S
  pub comes : follows old before
  pub takes : puts before item after
  pub goes_on : follows after new
