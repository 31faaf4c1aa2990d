-- What the commands that only look tell of the list that is held.
use Rattle.std.specs.Prelude.{◌≡◌, ℕ, List, Option, None, Some, Ok, reverse, take}
use Rattle.std.specs.List.{filter}
use Rattle.std.specs.Io.KnownBytes.{Appends}
use Rattle.su_bytes.specs.declared.file_ids.FileId.{FileId}
use Rattle.su_draft.specs.Walk.{found}
use Rattle.su_history.specs.Line.{lines, names}
use Rattle.su_history.specs.declared.line.Line.{Line}
use Rattle.su_legal.specs.Legal.{history}
use Rattle.su_person.specs.Putting.{HasThere}
use Rattle.su_view.specs.Holding.{HoldingState, tree_of_list}

-- just the bytes of the file to which the path leads are written behind what was written before
abbrev pub Writes : HoldingState → List ℕ → Option (List ℕ) → Option (List ℕ) → Type 0
Writes v path before after = (bytes : List ℕ) × HasThere v path bytes × Appends before after bytes

-- The newest lines of the history, so many at most: of all of it, or of those that name a file, where
-- nothing was mixed up (clear) the one to which a path leads.
abbrev pub AreNewest : Type 0 → HoldingState → ℕ → Option (List ℕ) → List Line → Type 0
AreNewest clear v count None ls = ls ≡ take count (reverse (lines (history v.held)))
AreNewest clear v count (Some path) ls =
    (file : FileId) × (clear → found (tree_of_list v) path ≡ Ok file)
    × (ls ≡ take count (reverse (filter (names file) (lines (history v.held)))))
