-- What a shard holds: items that stay, and others that may go, since they are kept elsewhere too.
use Rattle.std.specs.Prelude.{◌≡◌, ◌⊎◌, ℕ, ◌+◌, ◌-◌, ◌/◌, ◌<◌, ◌≤◌, List, ◌∷◌, length, take, Option, None, IsSome, MatchOption}
use Rattle.std.specs.List.{sum_by}
use Rattle.std.specs.Map.{lookup, remove_entry, values_of}
use Rattle.std.specs.Str.{bytes_eq}
use Rattle.su_block.specs.Memory.{AreUnderTheirDigests}
use Rattle.su_shared_items.specs.declared.items.TheConstants.{ITEM_COST}
use Rattle.su_shared_items.specs.declared.purposes.Purpose.{Purpose}
use Rattle.su_shared_items.specs.declared.purposes.Purpose.TheVariants as purpose

-- items, each beside the digest that it is under
abbrev pub Items : Type 0
Items = List (List ℕ × List ℕ)

-- the item under a digest
abbrev pub item_under : Items → List ℕ → Option (List ℕ)
item_under items digest = lookup (bytes_eq digest) items

-- the bytes that an item takes: its own, and 256 for the place where it is held, what finds it, and
-- what tells who pins it
unfoldable pub cost_of : List ℕ → ℕ
cost_of item = length item + ITEM_COST

-- the bytes that the items take
abbrev pub bytes_of : Items → ℕ
bytes_of items = sum_by cost_of (values_of items)

-- how many bytes of room the items that stay may take once one is put for this: a quarter is for those
-- of commits alone
abbrev pub room_for : Purpose → ℕ → ℕ
room_for purpose.Commit room = room
room_for purpose.Other room = room - room / 4

-- the items that stay, and the bytes that they may take
pub record Staying : Type 0 where
  pub items : Items
  pub room : ℕ

-- the items that may go, the one that was asked for last first, and the bytes that they may take
pub record Spare : Type 0 where
  pub items : Items
  pub room : ℕ

-- each is under its SHA-256; they take so many bytes, and no more than there is room for
pub record IsCounted (items : Items) (taken room : ℕ) : Type 0 where
  pub digests : AreUnderTheirDigests items
  pub counted : bytes_of items ≡ taken
  pub bounded : taken ≤ room

-- Those that were asked for longest ago are gone, so that there is room for so many bytes, and no
-- more of them than had to.
pub record HasRoomFor (size : ℕ) (old new : Spare) : Type 0 where
  pub left : ℕ
  pub items : new.items ≡ take left old.items
  pub room : new.room ≡ old.room
  pub fits : bytes_of new.items + size ≤ new.room
  pub needed : left < length old.items → new.room < bytes_of (take (left + 1) old.items) + size

-- the items with this one in front, in place of what was under its digest
abbrev pub with_newest : List ℕ → List ℕ → Items → Items
with_newest digest item items = (digest, item) ∷ remove_entry (bytes_eq digest) items

-- The item is the newest of those that may go, behind which there is room for it, unless it has
-- more bytes than there is room for at all: then nothing changes.
abbrev pub Adds : List ℕ → List ℕ → Spare → Spare → Type 0
Adds digest item old new =
    ((old.room < cost_of item) × (new ≡ old))
    ⊎ ((between : Spare) × HasRoomFor (cost_of item) old between × (new.room ≡ old.room)
    × (new.items ≡ with_newest digest item between.items))

-- The item that stayed may go: it is added to those, or there was no memory for that, and it is
-- gone. Where none stayed nothing changes.
abbrev pub LetsGo : List ℕ → Option (List ℕ) → Spare → Spare → Type 0
LetsGo digest stayed old new = MatchOption stayed (new ≡ old)
    (λ item. Adds digest item old new ⊎ HasRoomFor (cost_of item) old new)

-- the items that stay, the bytes that they may take, and the items that may go
pub record Held : Type 0 where
  pub staying : Items
  pub staying_room : ℕ
  pub spare : Spare

-- an item is under this digest, among those that stay or those that may go
abbrev pub Holds : Held → List ℕ → Type 0
Holds held digest =
    IsSome (item_under held.staying digest) ⊎ IsSome (item_under held.spare.items digest)

-- none is
abbrev pub HoldsNone : Held → List ℕ → Type 0
HoldsNone held digest =
    (item_under held.staying digest ≡ None) × (item_under held.spare.items digest ≡ None)
