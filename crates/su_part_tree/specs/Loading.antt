-- Nodes that are loaded from items.
use Rattle.std.specs.Prelude.{◌≡◌, ◌⊎◌, ℕ, Bool, List, length, Some, IsTrue}
use Rattle.std.specs.List.{AllByRecursion as Each, Contains}
use Rattle.sha2.specs.Sha256.{sha256}
use Rattle.su_bytes.specs.declared.refusals.Refusal.{Refusal}
use Rattle.su_bytes.specs.declared.refusals.Refusal.TheVariants.{MissingBlock, WrongBlock, SourceFailed, NoMemory, Malformed}
use Rattle.su_block.specs.declared.failures.Failures.{Failures}
use Rattle.su_block.specs.Failure.{is_failure}
use Rattle.su_tree.specs.Parting.{Begins}
use Rattle.su_tree.specs.Collision.{encodings}
use Rattle.su_hash_tree.specs.Sort.{Sort}
use Rattle.su_part_tree.specs.declared.items.Item.{Item}
use Rattle.su_part_tree.specs.declared.items.Item.TheVariants.{Nothing, Pair, Sides}
use Rattle.su_hash_tree.specs.declared.nodes.Node.{Node, Stub, Empty, Leaf, Split'}

-- it is no stub
abbrev pub IsLoaded : {K V : Type 0} → Node K V → Type 0
IsLoaded (Stub d) = ⊥
IsLoaded (Empty d) = Unit {0}
IsLoaded (Leaf x v d) = Unit {0}
IsLoaded (Split' p a l b r d) = Unit {0}

-- n is the loaded node that an item with the digest d spells: its sides are stubs
abbrev pub node_of : {K V : Type 0} → Item K V → List ℕ → Node K V → Type 0
node_of Nothing d n = n ≡ Empty d
node_of (Pair k v) d n = n ≡ Leaf k v d
node_of (Sides p x y) d (Split' q a l b r e) =
    (q ≡ p) × (l ≡ Stub x) × (r ≡ Stub y) × (e ≡ d)
node_of (Sides p x y) d n = ⊥

-- all keys begin with one word of n bits
pub record BeginAlike {K V : Type 0} (bits : K → List Bool) (n : ℕ) (m : List (K × V)) : Type 0 where
  pub word : List Bool
  pub size : length word ≡ n
  pub all : Each (λ e. Begins word (bits e.0)) m

-- No item of the map with the pairs m has the SHA-256 of another byte string that meets P.
abbrev pub NoClash : {K V : Type 0} → Sort K V → List (K × V) → (List ℕ → Type 0) → Type 0
NoClash t m P = (a b : List ℕ) → Contains (encodings t.kind m) a → P b → sha256 a ≡ sha256 b → a ≡ b

-- Where the refusal is a failure of the source, the newest of its failures was about an item of the
-- map with the pairs m.
abbrev pub FailedAtItem : {K V : Type 0} → Sort K V → List (K × V) → Failures → Refusal → Type 0
FailedAtItem t m failed e = IsTrue (is_failure e)
    → (s : List ℕ) × Contains (encodings t.kind m) s × (failed.last ≡ Some (sha256 s))

-- what a load may be refused with: a failure of the source, want of memory, or an item that spells
-- no node where one was to be
abbrev pub IsLoadRefusal : Refusal → Type 0
IsLoadRefusal e =
    (e ≡ MissingBlock) ⊎ (e ≡ WrongBlock) ⊎ (e ≡ SourceFailed) ⊎ (e ≡ NoMemory) ⊎ (e ≡ Malformed 0)
