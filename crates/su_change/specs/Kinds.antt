-- Kinds of values: the number of a kind comes first, and tells which fields come behind it.
use Rattle.std.specs.Prelude.{◌≡◌, ℕ, cond, nat_eq, List, [], ◌∷◌}
use Rattle.su_format.specs.Format.{Format, ◌>>=◌}
use Rattle.su_format.specs.Part.{u8_part}

-- no value: what is refused is this number in front, which is no kind's
unfoldable pub no_kind : {A : Type 0} → ℕ → Format A
no_kind n = record { Begins = λ bytes a rest. ⊥; Fails = λ bytes rest. rest ≡ n ∷ bytes }

-- the fields of the first of these kinds that has the number
abbrev pub fields_of : {A : Type 0} → List (ℕ × Format A) → ℕ → Format A
fields_of [] n = no_kind n
fields_of (kind ∷ others) n = cond (nat_eq n kind.0) kind.1 (fields_of others n)

-- the number of one of these kinds, and the fields of that kind
unfoldable pub one_of : {A : Type 0} → List (ℕ × Format A) → Format A
one_of kinds = do
  number ← u8_part
  fields_of kinds number
