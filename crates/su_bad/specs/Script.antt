-- What the steps of a script make of what is shown. (This project's own.)
use Rattle.std.specs.Prelude.{◌≢◌, ◌<◌, ◌≤◌, ℕ, ◌-◌, ◌&&◌, Bool, true, nat_le, if◌then◌else◌, List, [], ◌∷◌, ◌++◌, length, take, Option, Some, None, slice_set, slice_index_or, bit_xor}
use Rattle.std.specs.List.{swap}
use Rattle.su_bad.specs.Shown.{Shown}
use Rattle.su_bad.specs.declared.steps.Step.{Step}
use Rattle.su_bad.specs.declared.steps.Step.TheVariants.{RollBack, Fork, Swap, Drop, Forge, WrongBlock, Mute}

-- what is shown under each number from 1 on
abbrev pub Records : Type 0
Records = List (Option (List ℕ))

-- there is a record of this number
abbrev pub has_record : Records → ℕ → Bool
has_record rs n = nat_le 1 n && nat_le n (length rs)

-- another one is shown under this number, if there is one
abbrev pub with_record : Records → ℕ → Option (List ℕ) → Records
with_record rs n r = if has_record rs n then slice_set rs (n - 1) r else rs

-- the records of two numbers are exchanged, if both are there
abbrev pub exchanged : Records → ℕ → ℕ → Records
exchanged rs a b = if has_record rs a && has_record rs b then swap rs (a - 1) (b - 1) else rs

-- bytes with the last bit changed
abbrev pub with_other_bit : List ℕ → List ℕ
with_other_bit bytes =
    slice_set bytes (length bytes - 1) (bit_xor (slice_index_or bytes (length bytes - 1) 0) 1)

-- what is shown under a number, with its last bit changed
abbrev pub forged : Option (List ℕ) → Option (List ℕ)
forged None = None
forged (Some bytes) = Some (with_other_bit bytes)

-- the record of this number is forged, if there is one
abbrev pub with_forged : Records → ℕ → Records
with_forged rs n = with_record rs n (forged (slice_index_or rs (n - 1) None))

-- what is shown after a step
abbrev pub after : Step → Shown → Shown
after (RollBack n) s = record s { records = take (length s.records - n) s.records }
after (Fork n others) s = record s { records = take (n - 1) s.records ++ others.items }
after (Swap a b) s = record s { records = exchanged s.records a b }
after (Drop n) s = record s { records = with_record s.records n None }
after (Forge n) s = record s { records = with_forged s.records n }
after (WrongBlock digest) s = record s { wrong = s.wrong ++ digest ∷ [] }
after Mute s = record s { is_mute = true }

-- what is shown after the steps of a script, one after the other
abbrev pub after_all : List Step → Shown → Shown
after_all [] s = s
after_all (step ∷ script) s = after_all script (after step s)

-- what is shown under a number, if anything is
abbrev pub shown_at : Records → ℕ → Option (List ℕ)
shown_at rs n = if has_record rs n then slice_index_or rs (n - 1) None else None

-- a step leaves what is shown under this number
abbrev pub IsSpared : Step → Records → ℕ → Type 0
IsSpared (RollBack n) rs m = m ≤ length rs - n
IsSpared (Fork n others) rs m = (m < n) × (m ≤ length rs)
IsSpared (Swap a b) rs m = (m ≢ a) × (m ≢ b)
IsSpared (Drop n) rs m = m ≢ n
IsSpared (Forge n) rs m = m ≢ n
IsSpared (WrongBlock digest) rs m = Unit {0}
IsSpared Mute rs m = Unit {0}
