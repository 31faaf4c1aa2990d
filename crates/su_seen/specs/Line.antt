-- A line that tells up to which commit a file was seen.
use Rattle.std.specs.Prelude.{ℕ, List, ◌∷◌, ◌++◌}
use Rattle.std.specs.Fmt.{decimal}
use Rattle.su_spelling.specs.Shown.{shown}

-- `NUMBER PATH`: the number of the commit in decimal, and the path as people see it
abbrev pub seen_line : ℕ → List ℕ → List ℕ
seen_line n path = decimal n ++ 32 ∷ shown path
