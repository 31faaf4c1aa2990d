-- The order of the formats of commits.
use Rattle.std.specs.Prelude.{ℕ, Bool, nat_le}
use Rattle.su_bytes.specs.declared.formats.Format.{Format}
use Rattle.su_bytes.specs.declared.formats.Format.TheVariants.{V1, V2, V3, V4}

-- its number; a newer format has a greater one
abbrev pub format_number : Format → ℕ
format_number V1 = 1
format_number V2 = 2
format_number V3 = 3
format_number V4 = 4

-- it is the other one, or newer
abbrev pub is_as_new : Format → Format → Bool
is_as_new format other = nat_le (format_number other) (format_number format)
