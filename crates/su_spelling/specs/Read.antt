-- Which bytes a text spells.
use Rattle.std.specs.Prelude.{ℕ, zero, suc, ◌==◌, if◌then◌else◌, List, [], ◌∷◌, ◌++◌, Option, Some, None, option_map}
use Rattle.std.specs.Result.{result_ok}
use Rattle.hex.specs.Hex.{decode_of}

-- what an escape stands for, by the text behind its backslash: an `x` and two digits, in either
-- case; none where that is no escape
abbrev pub escaped : List ℕ → Option (List ℕ)
escaped (x ∷ high ∷ low ∷ text) =
    if x == 120 then result_ok (decode_of (high ∷ low ∷ [])) else None
escaped _ = None

-- what a byte stands for, with the text behind it
abbrev pub first_read : ℕ → List ℕ → Option (List ℕ)
first_read b text = if b == 92 then escaped text else Some (b ∷ [])

-- how many bytes behind it belong to it
abbrev pub behind_first : ℕ → ℕ
behind_first b = if b == 92 then 3 else 0

-- both, where neither is wrong
abbrev pub joined : Option (List ℕ) → Option (List ℕ) → Option (List ℕ)
joined (Some front) (Some rest) = Some (front ++ rest)
joined _ _ = None

-- a text, of which the first n bytes belong to an escape that began before them
abbrev pub read_from : ℕ → List ℕ → Option (List ℕ)
read_from n [] = Some []
read_from (suc n) (b ∷ text) = read_from n text
read_from zero (b ∷ text) = joined (first_read b text) (read_from (behind_first b) text)

-- The bytes that a text spells; none where a backslash in it begins no escape.
abbrev pub read : List ℕ → Option (List ℕ)
read text = read_from 0 text

-- with a `/` at the front
abbrev pub rooted : List ℕ → List ℕ
rooted [] = 47 ∷ []
rooted (b ∷ bytes) = if b == 47 then b ∷ bytes else 47 ∷ b ∷ bytes

-- The bytes of the path that a text spells, with the first `/` or without it.
abbrev pub path_read : List ℕ → Option (List ℕ)
path_read text = option_map rooted (read text)
