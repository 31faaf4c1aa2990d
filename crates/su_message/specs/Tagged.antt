-- Messages: a byte that says of what kind it is, and the fields of that kind, to the end. (This
-- project's own format.)
use Rattle.std.specs.Prelude.{◌≡◌, ◌≢◌, ℕ, ◌⊎◌, cond, nat_eq, List, [], ◌∷◌, Result, Ok, Err}
use Rattle.su_bytes.specs.declared.refusals.Refusal.{Refusal}
use Rattle.su_bytes.specs.declared.refusals.Refusal.TheVariants.{Malformed, NoMemory, UnknownTag}
use Rattle.su_format.specs.Format.{Format, whole}
use Rattle.su_format.specs.Reading.{Reading, IsRefusedAt}

-- ---- kinds: the number of each, and its fields

-- no value, and no part that is refused
unfoldable pub no_fields : {A : Type 0} → Format A
no_fields = record { Begins = λ bytes a rest. ⊥; Fails = λ bytes rest. ⊥ }

-- the fields of the first kind that has the number; none, where none has it
abbrev pub fields_of : {A : Type 0} → List (ℕ × Format A) → ℕ → Format A
fields_of [] n = no_fields
fields_of (kind ∷ others) n = cond (nat_eq n kind.0) kind.1 (fields_of others n)

-- no kind has the number
abbrev pub HasNoKind : {A : Type 0} → List (ℕ × Format A) → ℕ → Type 0
HasNoKind [] n = Unit {0}
HasNoKind (kind ∷ others) n = (n ≢ kind.0) × HasNoKind others n

-- ---- reading

-- the bytes behind the first
abbrev pub behind_tag : List ℕ → Reading
behind_tag fields = record { place = 1; left = fields }

-- What comes of reading a message of one of these kinds: a value of the kind that the first byte
-- names, whose fields are all the rest; or there is no first byte; or it names no kind; or the
-- fields aren't there, and the part that fails is named; or there is no memory.
abbrev pub ReadsTagged : {A : Type 0} → List (ℕ × Format A) → List ℕ → Result A Refusal → Type 0
ReadsTagged kinds [] (Ok a) = ⊥
ReadsTagged kinds [] (Err e) = (e ≡ NoMemory) ⊎ (e ≡ Malformed 0)
ReadsTagged kinds (first ∷ rest) (Ok a) = (fields_of kinds first).Begins rest a []
ReadsTagged kinds (first ∷ rest) (Err e) =
    (e ≡ NoMemory)
    ⊎ ((e ≡ UnknownTag) × HasNoKind kinds first)
    ⊎ ((place : ℕ) × (e ≡ Malformed place)
    × IsRefusedAt (whole (fields_of kinds first)) (behind_tag rest) place)
