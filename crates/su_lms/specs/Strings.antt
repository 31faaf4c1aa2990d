-- Numbers and byte strings (RFC 8554, Section 3.1), and the parts of a string at fixed places.
use Rattle.std.specs.Prelude.{ℕ, zero, suc, ◌+◌, ◌*◌, ◌-◌, ◌/◌, ◌%◌, ◌^◌, List, [], ◌++◌, take, drop, bit_and, slice_index}
use Rattle.std.specs.Int.{w16, w32, to_be_bytes, from_be_bytes}

-- a number as two bytes, high byte first (Section 3.1.1)
abbrev pub u16str : ℕ → List ℕ
u16str n = to_be_bytes w16 n

-- a number as four bytes, high byte first (Section 3.1.1)
abbrev pub u32str : ℕ → List ℕ
u32str n = to_be_bytes w32 n

-- the number that four bytes spell, at a place of a string (Section 3.1.1)
unfoldable pub number_at : ℕ → List ℕ → ℕ
number_at place bytes = from_be_bytes w32 (take 4 (drop place bytes))

-- the 32 bytes at a place of a string
abbrev pub part_at : ℕ → List ℕ → List ℕ
part_at place bytes = take 32 (drop place bytes)

-- the i-th coefficient of w bits of a string (Section 3.1.3)
unfoldable pub coef : List ℕ → ℕ → ℕ → ℕ
coef bytes i w = bit_and (2 ^ w - 1) (slice_index bytes (i * w / 8) / 2 ^ (8 - (w * (i % (8 / w)) + w)))

-- strings 0 to n - 1, one after another
unfoldable pub joined : ℕ → (ℕ → List ℕ) → List ℕ
joined zero string = []
joined (suc n) string = joined n string ++ string n

-- numbers 0 to n - 1, added up
unfoldable pub sum_below : ℕ → (ℕ → ℕ) → ℕ
sum_below zero number = 0
sum_below (suc n) number = sum_below n number + number n
