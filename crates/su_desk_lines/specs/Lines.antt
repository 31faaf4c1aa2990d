-- How a reader's bytes are taken line by line.
use Rattle.std.specs.Prelude.{◌≡◌, ℕ, ◌<◌, Bool, true, false, not, List, [], ◌∷◌, ◌++◌, length, Option, Some, None, nat_eq, ⊤}
use Rattle.std.specs.Bool.{OnFalse}
use Rattle.std.specs.List.{list_all}
use Rattle.su_desk_lines.specs.declared.lines.NextLine.{NextLine}
use Rattle.su_desk_lines.specs.declared.lines.NextLine.TheVariants.{Line, TooLong, End}
use Rattle.su_desk_lines.specs.Script.{lines_of, longest_line}

-- no line ends in it
abbrev pub is_unbroken : List ℕ → Bool
is_unbroken bytes = list_all (λ b. not (nat_eq b 10)) bytes

-- a line grows by the bytes that were ready, up to the end of the line, which is taken too
abbrev pub Takes : Bool → List ℕ → List ℕ → List ℕ → List ℕ → Type 0
Takes true line grown ready left =
    (part : List ℕ) × (is_unbroken part ≡ true) × (grown ≡ line ++ part) × (ready ≡ part ++ 10 ∷ left)
Takes false line grown ready left =
    (is_unbroken ready ≡ true) × (grown ≡ line ++ ready) × (left ≡ [])

-- known bytes are ready after a read, and none come only at their end
abbrev pub Refills : Bool → Option (List ℕ) → Option (List ℕ) → Type 0
Refills more None new = ⊤
Refills more (Some xs) new = (new ≡ Some xs) × OnFalse more (xs ≡ [])

-- of these bytes
abbrev pub ReadsOf : NextLine → List ℕ → Option (List ℕ) → Type 0
ReadsOf End input new = lines_of input ≡ []
ReadsOf (Line line) input new =
    (rest : List ℕ) × (new ≡ Some rest) × (lines_of input ≡ line.items ∷ lines_of rest)
ReadsOf TooLong input new =
    (line : List ℕ) × (lines : List (List ℕ)) × (lines_of input ≡ line ∷ lines)
    × (longest_line < length line)

-- of known bytes the first line is read, or that it is too long, or that there is none
abbrev pub Reads : NextLine → Option (List ℕ) → Option (List ℕ) → Type 0
Reads next None new = ⊤
Reads next (Some input) new = ReadsOf next input new

-- part of a line was taken from known bytes
abbrev pub Partly : List ℕ → Option (List ℕ) → Option (List ℕ) → Type 0
Partly line None new = ⊤
Partly line (Some input) new =
    (is_unbroken line ≡ true) × (rest : List ℕ) × (new ≡ Some rest) × (input ≡ line ++ rest)
