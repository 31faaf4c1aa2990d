-- How many operations an item has room for.
use Rattle.std.specs.Prelude.{◌≡◌, ◌+◌, ◌≤◌, ◌⊎◌, ℕ, List, length, take}
use Rattle.su_op.specs.declared.operations.Op.{Op}
use Rattle.su_op.specs.declared.operations.Change.TheVariants.{Do}
use Rattle.su_change.specs.Batch.{most_operations}
use Rattle.su_change.specs.Item.{HasItem, longest_item}

-- The first n operations have an item, or there are none; and one more has none, where there is one.
pub record IsLongestHead (ops : List Op) (n : ℕ) : Type 0 where
  pub few : n ≤ length ops
  pub has_item : (n ≡ 0) ⊎ HasItem (Do (take n ops))
  pub longest : (n ≡ length ops) ⊎ (HasItem (Do (take (n + 1) ops)) → ⊥)

-- An item has room for so many operations, whose spellings have so many bytes: one alone always
-- has room; several are 256 at most, and the item has four bytes more.
abbrev pub HasRoom : ℕ → ℕ → Type 0
HasRoom count bytes = (count ≡ 1) ⊎ ((count ≤ most_operations) × (4 + bytes ≤ longest_item))
