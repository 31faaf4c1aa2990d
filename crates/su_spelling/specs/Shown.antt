-- How the bytes of a name or a path are shown to people.
use Rattle.std.specs.Prelude.{ℕ, zero, suc, ◌-◌, ◌<◌, All, Bool, ◌||◌, ◌&&◌, ◌==◌, if◌then◌else◌, List, [], ◌∷◌, ◌++◌, unwrap_or, find, take, slice_index, nat_lt, nat_le, length}
use Rattle.std.specs.Str.{is_utf8}
use Rattle.hex.specs.Hex.{encode_lower}

abbrev pub AreBytes : List ℕ → Type 0
AreBytes bs = All (λ b. b < 256) bs

-- a byte that may act on a terminal, and that no line has: one below 0x20, or 0x7f
abbrev pub is_control : ℕ → Bool
is_control b = nat_lt b 32 || b == 127

-- a byte that is shown by its escape wherever it stands: such a one, and the backslash
abbrev pub is_hidden : ℕ → Bool
is_hidden b = is_control b || b == 92

-- the escape of a byte: `\xHH`, with two digits in lower case
abbrev pub escape : ℕ → List ℕ
escape b = 92 ∷ 120 ∷ encode_lower (b ∷ [])

-- bytes begin with n bytes that are a text
abbrev pub begins_text : List ℕ → ℕ → Bool
begins_text bs n = nat_le n (length bs) && is_utf8 (take n bs)

-- how many bytes the character has that bytes begin with, and 0 where they begin with none
abbrev pub char_len : List ℕ → ℕ
char_len bs = unwrap_or (find (begins_text bs) (1 ∷ 2 ∷ 3 ∷ 4 ∷ [])) 0

-- how many bytes at the front of bytes are shown as they are, for a character: none where there
-- is no character, or one that is hidden
abbrev pub plain_len : List ℕ → ℕ
plain_len bs = if is_hidden (slice_index bs 0) then 0 else char_len bs

-- a byte, of which n bytes from it on are shown as they are
abbrev pub first_shown : ℕ → ℕ → List ℕ
first_shown b zero = escape b
first_shown b (suc n) = b ∷ []

-- bytes, of which the first n belong to a character that began before them
abbrev pub shown_from : ℕ → List ℕ → List ℕ
shown_from n [] = []
shown_from (suc n) (b ∷ bs) = b ∷ shown_from n bs
shown_from zero (b ∷ bs) =
    first_shown b (plain_len (b ∷ bs)) ++ shown_from (plain_len (b ∷ bs) - 1) bs

-- What is shown of a name.
abbrev pub shown : List ℕ → List ℕ
shown name = shown_from 0 name
