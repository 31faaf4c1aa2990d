-- What was found of the entries that changed the bytes of several files last.
use Rattle.std.specs.Prelude.{◌≡◌, ℕ, Bool, true, false, List, Option, None, Some}
use Rattle.std.specs.declared.cmp.Ordering.{Ordering}
use Rattle.std.specs.BTreeMap.{BTreeMap, get}
use Rattle.std.specs.List.{list_any}
use Rattle.std.specs.Option.{is_none}
use Rattle.std.specs.Ordering.{bool_cmp, nat_cmp, ordering_then}
use Rattle.su_bytes.specs.Place.{file_eq}
use Rattle.su_bytes.specs.declared.file_ids.FileId.{FileId}
use Rattle.su_bytes.specs.declared.file_ids.FileId.TheVariants.{User, Group}
use Rattle.su_person.specs.declared.found_changes.FoundChanges.{FoundChanges}

-- a file in an order: whether it is a group's, which user's or group's, and its number there
abbrev pub FileKey : Type 0
FileKey = Bool × ℕ × ℕ

abbrev pub key_of : FileId → FileKey
key_of (User u n) = (false, u, n)
key_of (Group g n) = (true, g, n)

abbrev pub key_cmp : FileKey → FileKey → Ordering
key_cmp x y = ordering_then (ordering_then (bool_cmp x.0 y.0) (nat_cmp x.1 y.1)) (nat_cmp x.2 y.2)

-- ---- what is noted of a file: the number and the author of an entry, if one was found; and whether it
-- is one of the files that are asked about

abbrev pub noted_in : BTreeMap FileKey (Option (ℕ × ℕ)) → FileId → Option (Option (ℕ × ℕ))
noted_in lasts f = get key_cmp lasts (key_of f)

abbrev pub noted_of : FoundChanges → FileId → Option (Option (ℕ × ℕ))
noted_of found f = noted_in found.lasts f

abbrev pub is_asked : List FileId → FileId → Bool
is_asked fs f = list_any (λ g. file_eq g f) fs

abbrev pub found_in : Option (Option (ℕ × ℕ)) → Option (ℕ × ℕ)
found_in None = None
found_in (Some last) = last

abbrev pub found_of : FoundChanges → FileId → Option (ℕ × ℕ)
found_of found f = found_in (noted_of found f)

abbrev pub is_missing : Option (Option (ℕ × ℕ)) → Bool
is_missing None = false
is_missing (Some last) = is_none last

-- ---- one entry more

-- what is noted of a file then, if the entry changes it: the first entry that is noted stays
abbrev pub noting : Bool → ℕ × ℕ → Option (Option (ℕ × ℕ)) → Option (Option (ℕ × ℕ))
noting false last noted = noted
noting true last None = None
noting true last (Some None) = Some (Some last)
noting true last (Some (Some newer)) = Some (Some newer)

-- that entry was noted for the files of which `changes` tells
abbrev pub Notes : (FileId → Bool) → ℕ × ℕ → FoundChanges → FoundChanges → Type 0
Notes changes last before after = (f : FileId) → noted_of after f ≡ noting (changes f) last (noted_of before f)
