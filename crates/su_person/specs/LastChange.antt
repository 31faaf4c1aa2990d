-- Which entry of a history changed the bytes of a file last.
use Rattle.std.specs.Prelude.{ℕ, ◌+◌, Bool, false, cond, List, [], ◌∷◌, Option, None, Some}
use Rattle.std.specs.Option.{option_or}
use Rattle.std.specs.List.{list_any}
use Rattle.su_bytes.specs.Place.{file_eq}
use Rattle.su_bytes.specs.declared.file_ids.FileId.{FileId}
use Rattle.su_op.specs.declared.operations.Op.{Op}
use Rattle.su_op.specs.declared.operations.Op.TheVariants.{Create, Write, Truncate}
use Rattle.su_op.specs.declared.operations.Change.{Change}
use Rattle.su_op.specs.declared.operations.Change.TheVariants.{Do, Undo}
use Rattle.su_desk.specs.declared.entries.Entry.{Entry}
use Rattle.su_desk.specs.History.{entry_at}

-- the operation makes the file, writes to it or cuts it
abbrev pub changes_bytes : FileId → Op → Bool
changes_bytes f (Create it) = file_eq f it.file
changes_bytes f (Write it) = file_eq f it.file
changes_bytes f (Truncate it) = file_eq f it.file
changes_bytes f _ = false

-- the change has such an operation
abbrev pub does_change : FileId → Change → Bool
does_change f (Do operations) = list_any (changes_bytes f) operations
does_change f _ = false

abbrev pub does_change_at : FileId → Option Entry → Bool
does_change_at f None = false
does_change_at f (Some e) = does_change f e.change

-- it is one, or the undo of one in this history
abbrev pub touches : List Entry → FileId → Change → Bool
touches h f (Undo n) = does_change_at f (entry_at h n)
touches h f change = does_change f change

-- the last of these entries that does so, of which the first has number n: its number and its author
abbrev pub last_from : ℕ → List Entry → FileId → List Entry → Option (ℕ × ℕ)
last_from n h f [] = None
last_from n h f (e ∷ es) =
    option_or (last_from (n + 1) h f es) (cond (touches h f e.change) (Some (n, e.author)) None)

-- the number and the author of the last entry that changed the bytes of the file, by an operation or
-- the undo of one
abbrev pub last_change : List Entry → FileId → Option (ℕ × ℕ)
last_change h f = last_from 1 h f h
