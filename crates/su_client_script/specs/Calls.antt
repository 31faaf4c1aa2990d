-- What a script has the program do with files. (This project's own.)
use Rattle.std.specs.Prelude.{ℕ, List}

-- the log is saved as a file of that name; the file of that name has a key with this public key
pub record FileCalls : Type 1 where
  pub saves : List ℕ → List ℕ → Type 0
  pub opens : List ℕ → List ℕ → Type 0

-- Some call of the program saved this log as a file of that name.
abbrev pub IsSaved : {P : Type 0} → (P → List ℕ → List ℕ → P → Type 0) → List ℕ → List ℕ → Type 0
IsSaved {P} Saves file log = (before after : P) × Saves before file log after

-- Some call of the program found this public key in the file of that name.
abbrev pub IsOpened : {P : Type 0} → (P → List ℕ → List ℕ → Type 0) → List ℕ → List ℕ → Type 0
IsOpened {P} Opens file key = (program : P) × Opens program file key

-- what the calls of the program do that save a log, and that open a key
abbrev pub files_of : {P : Type 0} → (P → List ℕ → List ℕ → P → Type 0)
    → (P → List ℕ → List ℕ → Type 0) → FileCalls
files_of Saves Opens = record { saves = IsSaved Saves; opens = IsOpened Opens }
