-- The names under which a key maker writes the two files of a key first.
use Rattle.std.specs.Prelude.{◌≡◌, ◌≢◌, ◌⊎◌, ℕ, List, [], ◌++◌, true, codes}
use Rattle.std.specs.Char.{is_ascii_digit}
use Rattle.std.specs.List.{list_all}

-- `.part.` and the number of a run
abbrev pub IsPart : List ℕ → Type 0
IsPart text =
    (run : List ℕ) × (text ≡ codes ".part." ++ run) × (run ≢ []) × (list_all is_ascii_digit run ≡ true)

-- behind the name of the key's file, and for the public key behind `.pub`
abbrev pub IsUnfinished : List ℕ → List ℕ → Type 0
IsUnfinished name entry =
    (rest : List ℕ) × (entry ≡ name ++ rest) ×
    (IsPart rest ⊎ ((part : List ℕ) × (rest ≡ codes ".pub" ++ part) × IsPart part))
