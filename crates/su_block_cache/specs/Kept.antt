-- Items that are kept under digests, no more than a capacity.
use Rattle.std.specs.Prelude.{◌≡◌, ◌⊎◌, ℕ, ◌<◌, ◌≤◌, List, ◌∷◌, length, take, Option}
use Rattle.std.specs.Map.{lookup, remove_entry}
use Rattle.std.specs.Str.{bytes_eq}

-- items, each beside the digest that it is under, the one that was used last first
abbrev pub Items : Type 0
Items = List (List ℕ × List ℕ)

-- the item under a digest
abbrev pub item_under : Items → List ℕ → Option (List ℕ)
item_under items digest = lookup (bytes_eq digest) items

-- the items, and the most that there may be
pub record Kept : Type 0 where
  pub items : Items
  pub capacity : ℕ

-- there are no more items than there may be, and there may be some
pub record IsWithin (items : Items) (capacity : ℕ) : Type 0 where
  pub some : 0 < capacity
  pub within : length items ≤ capacity

-- The items with this one as the newest, in place of what was under its digest. Where that is one
-- more than there may be, the oldest one goes.
abbrev pub with_newest : ℕ → List ℕ → List ℕ → Items → Items
with_newest capacity digest item items =
    take capacity ((digest, item) ∷ remove_entry (bytes_eq digest) items)

-- The item is kept as the newest; or it isn't, as it is a long one or there was no memory for it, and
-- nothing changes.
abbrev pub Keeps : ℕ → List ℕ → List ℕ → Items → Items → Type 0
Keeps capacity digest item old new =
    (new ≡ with_newest capacity digest item old) ⊎ (new ≡ old)
