-- The parameter sets of RFC 8554, by their type numbers: those of LM-OTS (Section 4.1) and those of LMS (Section 5.1).
-- Each hash has n = m = 32 bytes.
use Rattle.std.specs.Prelude.{ℕ, ◌≤◌, ◌*◌, ◌-◌, nat_eq, if◌then◌else◌}

-- the LM-OTS types that the standard lists: coefficients of 1, 2, 4 and 8 bits (Section 4.1)
abbrev pub IsOneTimeType : ℕ → Type 0
IsOneTimeType ots = (1 ≤ ots) × (ots ≤ 4)

-- w, the width in bits of a coefficient (Section 4.1)
unfoldable pub width_of : ℕ → ℕ
width_of ots = if nat_eq ots 1 then 1 else if nat_eq ots 2 then 2 else if nat_eq ots 3 then 4 else 8

-- p, the number of chains of a one-time key (Section 4.1)
unfoldable pub chain_count : ℕ → ℕ
chain_count ots = if nat_eq ots 1 then 265 else if nat_eq ots 2 then 133 else if nat_eq ots 3 then 67 else 34

-- ls, how far the sum in a checksum is shifted to the left (Section 4.1)
unfoldable pub checksum_shift : ℕ → ℕ
checksum_shift ots = if nat_eq ots 1 then 7 else if nat_eq ots 2 then 6 else if nat_eq ots 3 then 4 else 0

-- the LMS types that the standard lists: heights 5, 10, 15, 20 and 25 (Section 5.1)
abbrev pub IsTreeType : ℕ → Type 0
IsTreeType lms = (5 ≤ lms) × (lms ≤ 9)

-- h, the height of the tree (Section 5.1)
abbrev pub height_of : ℕ → ℕ
height_of lms = 5 * (lms - 4)

-- the types of the keys that are made here: height 5 or 10, and width 4 or 8
abbrev pub CanBeMade : ℕ → ℕ → Type 0
CanBeMade lms ots = (5 ≤ lms) × (lms ≤ 6) × (3 ≤ ots) × (ots ≤ 4)
