-- A shard, what it was told of items that are kept elsewhere too, and which items sessions pin.
use Rattle.std.specs.Prelude.{◌≡◌, ℕ, ◌+◌, ◌-◌, Bool, true, false, List, Option, Some, None, unwrap_or, is_some, nat_le, if◌then◌else◌}
use Rattle.std.specs.List.{list_any}
use Rattle.std.specs.Map.{lookup, remove_entry}
use Rattle.std.specs.Set.{remove_key}
use Rattle.std.specs.Str.{bytes_eq}
use Rattle.std.specs.BTreeMap.{is_at}
use Rattle.std.specs.BTreeSet.{insert_key}
use Rattle.std.specs.Cmp.Lexicographic.{slice_cmp}
use Rattle.std.specs.Ordering.{nat_cmp}
use Rattle.su_shared_items.specs.Shard.{Held, Items, item_under}

-- ---- pins

-- digests, each with how many sessions pin its item
abbrev pub Counts : Type 0
Counts = List (List ℕ × ℕ)

-- how many sessions pin the item of a digest, if any does
abbrev pub pins_of : Counts → List ℕ → Option ℕ
pins_of pins digest = lookup (bytes_eq digest) pins

-- so many pin this item from then on, or none, and as many as before pin each other one
pub record Recounts (digest : List ℕ) (count : Option ℕ) (old new : Counts) : Type 0 where
  pub each : (d : List ℕ) → pins_of new d ≡ (if bytes_eq digest d then count else pins_of old d)

-- with one more
abbrev pub one_more : Option ℕ → Option ℕ
one_more count = Some (unwrap_or count 0 + 1)

-- whether one pins it, and no more
abbrev pub is_last : Option ℕ → Bool
is_last None = false
is_last (Some n) = nat_le n 1

-- with one fewer, if any pins it
abbrev pub one_fewer : Option ℕ → Option ℕ
one_fewer None = None
one_fewer (Some n) = if nat_le n 1 then None else Some (n - 1)

-- How many pin an item once a session has put it, by whether it stayed before: one that stayed
-- though nobody pinned it stays for good, and nobody pins it.
abbrev pub once_put : Bool → Option ℕ → Option ℕ
once_put true None = None
once_put true (Some n) = one_more (Some n)
once_put false count = one_more count

-- what stays once one session fewer pins an item: the item doesn't where that was the last one
abbrev pub once_unpinned : Option ℕ → List ℕ → Items → Items
once_unpinned count digest staying =
    if is_last count then remove_entry (bytes_eq digest) staying else staying

-- each item that a session pins is among those that stay
pub record PinnedStay (pins : Counts) (staying : Items) : Type 0 where
  pub each : (d : List ℕ) → is_some (pins_of pins d) ≡ true → is_some (item_under staying d) ≡ true

-- ---- all of it

-- what the shard holds, the digests of which it was told, and how many sessions pin each item
pub record Section : Type 0 where
  pub held : Held
  pub elsewhere : List (List ℕ)
  pub pins : Counts

-- whether a digest is among these
abbrev pub is_elsewhere : List (List ℕ) → List ℕ → Bool
is_elsewhere digests digest = list_any (is_at (slice_cmp nat_cmp digest)) digests

-- ---- sessions

-- these digests and this one, in order
abbrev pub with_one : List ℕ → List (List ℕ) → List (List ℕ)
with_one digest digests = insert_key (slice_cmp nat_cmp) digests digest

-- these digests but for one
abbrev pub without : List ℕ → List (List ℕ) → List (List ℕ)
without digest digests = remove_key (is_at (slice_cmp nat_cmp digest)) digests
