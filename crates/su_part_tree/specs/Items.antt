-- The nodes that an item may spell.
use Rattle.std.specs.Prelude.{◌≡◌, ◌≢◌, ℕ, ◌<◌, ◌^◌, List, length, IsTrue}
use Rattle.su_tree.specs.Digest.{empty_item, pair_item, split_item}
use Rattle.su_part_tree.specs.declared.items.Item.{Item}
use Rattle.su_part_tree.specs.declared.items.Item.TheVariants.{Nothing, Pair, Sides}
use Rattle.su_hash_tree.specs.Sort.{Sort}

-- the byte string s spells this node
abbrev pub Spells : {K V : Type 0} → Sort K V → List ℕ → Item K V → Type 0
Spells t s Nothing = s ≡ empty_item
Spells t s (Pair k v) = IsTrue (t.ok (k, v)) × (s ≡ pair_item t.kind (k, v))
Spells t s (Sides p a b) = (s ≡ split_item p a b) × (p < 2 ^ 16) × (length a ≡ 32) × (length b ≡ 32)

-- the byte string s spells no node
pub record SpellsNone {K V : Type 0} (t : Sort K V) (s : List ℕ) : Type 0 where
  pub not_empty : s ≢ empty_item
  pub no_pair : (e : K × V) → IsTrue (t.ok e) → s ≢ pair_item t.kind e
  pub no_split : (p : ℕ) (a b : List ℕ) → p < 2 ^ 16 → length a ≡ 32 → length b ≡ 32
      → s ≢ split_item p a b
