-- What a history is for people, line by line: entries that belong together are one line.
use Rattle.std.specs.Prelude.{◌≡◌, ℕ, ◌+◌, ◌-◌, ◌<◌, Bool, true, false, ◌&&◌, List, [], ◌∷◌, map, ◌++◌, length, get_or, Option, None, Some, nat_eq, if◌then◌else◌}
use Rattle.std.specs.List.{filter, list_all, list_any, range_with_len, sum_by}
use Rattle.std.proofs.Math.Bool.{beq}
use Rattle.std.specs.Option.{is_some, option_and_then}
use Rattle.su_bytes.specs.declared.file_ids.FileId.{FileId}
use Rattle.su_bytes.specs.declared.file_ids.Kind.{Kind}
use Rattle.su_bytes.specs.declared.file_ids.Kind.TheVariants.{File, Dir}
use Rattle.su_bytes.specs.Place.{file_eq}
use Rattle.su_op.specs.declared.operations.Op.{Op}
use Rattle.su_op.specs.declared.operations.Op.TheVariants.{Create, Unlink, Write, Truncate, Take, Link, Rename, Drop}
use Rattle.su_op.specs.declared.operations.Change.{Change}
use Rattle.su_op.specs.declared.operations.Change.TheVariants.{Do, Undo, Rekey}
use Rattle.su_op.specs.Action.{batch_bytes, operation_of_change}
use Rattle.su_desk.specs.declared.entries.Entry.{Entry}
use Rattle.su_desk.specs.History.{undoer}
use Rattle.su_desk.specs.KeptEntry.{written}
use Rattle.su_history.specs.Several.{SeveralOperations}
use Rattle.su_history.specs.declared.line.Line.{Line}
use Rattle.su_history.specs.declared.line.Deed.{Deed}
use Rattle.su_history.specs.declared.line.Deed.TheVariants.{Made, Put, Wrote, Cut, Linked, Renamed, Removed, TookOver, Dropped, Together, Undid, NamedKey}
use Rattle.su_history.specs.declared.line.Fate.{Fate}
use Rattle.su_history.specs.declared.line.Fate.TheVariants.{Live, Undone, Lasting}

-- ---- the entries of a history

-- an entry with its number, and with that of the entry that undid it
pub record NumberedEntry : Type 0 where
  pub number : ℕ
  pub entry : Entry
  pub undoer : Option ℕ

-- those entries of history h, of which the first has number n
abbrev pub numbered_from : List Entry → ℕ → List Entry → List NumberedEntry
numbered_from h n [] = []
numbered_from h n (e ∷ es) =
    record { number = n; entry = e; undoer = undoer h n } ∷ numbered_from h (n + 1) es

abbrev pub numbered : List Entry → List NumberedEntry
numbered h = numbered_from h 1 h

-- ---- which of them are one line

-- the file that an operation writes to or cuts
abbrev pub edited_by : Op → Option FileId
edited_by (Write w) = Some w.file
edited_by (Truncate t) = Some t.file
edited_by _ = None

-- the file of a create, if it makes one
abbrev pub made : Kind → FileId → Option FileId
made File f = Some f
made Dir f = None

-- the file that an operation makes, writes to or cuts
abbrev pub filled_by : Op → Option FileId
filled_by (Create c) = made c.kind c.file
filled_by op = edited_by op

-- the file that a change writes to or cuts; none where the change is more than one operation
abbrev pub edited : Change → Option FileId
edited c = option_and_then edited_by (operation_of_change c)

-- the file that a change makes, writes to or cuts; none where the change is more than one operation
abbrev pub filled : Change → Option FileId
filled c = option_and_then filled_by (operation_of_change c)

-- both are files, and the same one
abbrev pub are_one : Option FileId → Option FileId → Bool
are_one (Some f) (Some g) = file_eq f g
are_one _ _ = false

-- the second change writes to or cuts the file that the first makes, writes to or cuts
abbrev pub is_same_file : Change → Change → Bool
is_same_file c next = are_one (filled c) (edited next)

-- An entry goes on with e, the one before it: its author is the same, it writes to or cuts the file
-- that e makes, writes to or cuts, and both are undone or neither is.
abbrev pub goes_on : NumberedEntry → NumberedEntry → Bool
goes_on e next = nat_eq e.entry.author next.entry.author
    && is_same_file e.entry.change next.entry.change
    && beq (is_some e.undoer) (is_some next.undoer)

-- entries in a row: the first one, and the others
pub record Run : Type 0 where
  pub first : NumberedEntry
  pub others : List NumberedEntry

-- the runs with an entry before them: in the first run where that one goes on with it, else alone
abbrev pub with_first : NumberedEntry → List Run → List Run
with_first e [] = record { first = e; others = [] } ∷ []
with_first e (r ∷ rs) =
    if goes_on e r.first then record { first = e; others = r.first ∷ r.others } ∷ rs
    else record { first = e; others = [] } ∷ r ∷ rs

-- the longest runs of entries in which each other one goes on with the one before it
abbrev pub runs : List NumberedEntry → List Run
runs [] = []
runs (e ∷ es) = with_first e (runs es)

-- ---- what a line says

-- the last one of e and those behind it
abbrev pub last_of : NumberedEntry → List NumberedEntry → NumberedEntry
last_of e [] = e
last_of e (next ∷ es) = last_of next es

-- how many bytes a run writes in all
abbrev pub bytes_of : Run → ℕ
bytes_of r = sum_by (λ (e : NumberedEntry). written e.entry.change) (r.first ∷ r.others)

-- what an operation did
abbrev pub deed_of_op : Op → Deed
deed_of_op (Create c) = Made c
deed_of_op (Unlink u) = Removed u
deed_of_op (Write w) = Wrote w.file (length w.bytes)
deed_of_op (Truncate t) = Cut t
deed_of_op (Take t) = TookOver t
deed_of_op (Link l) = Linked l
deed_of_op (Rename r) = Renamed r
deed_of_op (Drop d) = Dropped d

-- the files and directories that a deed names
abbrev pub files_of : Deed → List FileId
files_of (Made c) = c.dir ∷ c.file ∷ []
files_of (Put c n) = c.dir ∷ c.file ∷ []
files_of (Wrote f n) = f ∷ []
files_of (Cut t) = t.file ∷ []
files_of (Linked l) = l.dir ∷ l.file ∷ []
files_of (Renamed r) = r.from_ ∷ r.to_ ∷ r.file ∷ []
files_of (Removed u) = u.dir ∷ u.file ∷ []
files_of (TookOver t) = t.file ∷ []
files_of (Together s) = s.files
files_of _ = []

-- the files and directories that operations name, one operation after another
abbrev pub files_named : List Op → List FileId
files_named [] = []
files_named (op ∷ ops) = files_of (deed_of_op op) ++ files_named ops

-- What operations in a row on one file did, which write so many bytes in all, from the first of them
-- and what the last one did: those behind the making of a file put its bytes there, others wrote to
-- a file; where no bytes are written, the file was made, or cut to the last size.
abbrev pub deed_of_row : Op → Deed → ℕ → Deed
deed_of_row (Create c) last n = if nat_eq n 0 then Made c else Put c n
deed_of_row (Write w) last n = Wrote w.file n
deed_of_row (Truncate t) last n = if nat_eq n 0 then last else Wrote t.file n
deed_of_row op last n = deed_of_op op

-- the operation is no take
abbrev pub is_no_take : Op → Bool
is_no_take (Take t) = false
is_no_take _ = true

-- the operation writes to or cuts that file
abbrev pub edits : Option FileId → Op → Bool
edits f op = are_one f (edited_by op)

-- op makes, writes to or cuts a file, and each of the others writes to or cuts that one
abbrev pub is_row : Op → List Op → Bool
is_row op others = is_some (filled_by op) && list_all (edits (filled_by op)) others

-- the last one of op and those behind it
abbrev pub last_op : Op → List Op → Op
last_op op [] = op
last_op op (next ∷ ops) = last_op next ops

-- operations of one entry, which write n bytes in all
abbrev pub several : List Op → ℕ → SeveralOperations
several ops n = record { operations = length ops; bytes = n; files = files_named ops }

-- What a batch did, from those of its operations that are no takes: where these are a row on one
-- file, what such a row did.
abbrev pub deed_beside_takes : SeveralOperations → List Op → Deed
deed_beside_takes s [] = Together s
deed_beside_takes s (op ∷ others) =
    if is_row op others then deed_of_row op (deed_of_op (last_op op others)) s.bytes
    else Together s

-- what the operations of a batch did, which write n bytes in all
abbrev pub deed_of_batch : List Op → ℕ → Deed
deed_of_batch ops n = deed_beside_takes (several ops n) (filter is_no_take ops)

-- what a change did
abbrev pub deed_of : Change → Deed
deed_of (Do (op ∷ [])) = deed_of_op op
deed_of (Do ops) = deed_of_batch ops (batch_bytes ops)
deed_of (Undo n) = Undid n
deed_of (Rekey k) = NamedKey

-- what the changes of a run did, from the first to the last, that write so many bytes in all
abbrev pub deed_of_run : Change → Change → ℕ → Deed
deed_of_run (Do (op ∷ [])) last n = deed_of_row op (deed_of last) n
deed_of_run first last n = deed_of first

-- what became of a change that this entry undid, if one did
abbrev pub fate_of : Change → Option ℕ → Fate
fate_of (Do ops) None = Live
fate_of (Do ops) (Some n) = Undone n
fate_of _ _ = Lasting

-- the line of a run
abbrev pub line_of : Run → Line
line_of r =
    let last = last_of r.first r.others in
    record {
      first = r.first.number;
      last = last.number;
      author = r.first.entry.author;
      deed = deed_of_run r.first.entry.change last.entry.change (bytes_of r);
      fate = fate_of last.entry.change last.undoer;
    }

-- The lines of a history.
abbrev pub lines : List Entry → List Line
lines h = map line_of (runs (numbered h))

-- ---- those of a file

-- a line names that file
abbrev pub names : FileId → Line → Bool
names f l = list_any (file_eq f) (files_of l.deed)

-- ---- beside them

-- the numbers of the entries of a line
abbrev pub numbers : Line → List ℕ
numbers l = range_with_len l.first (l.last + 1 - l.first)

-- of each entry, in order, the number of the one that undid it
pub record AreUndoers (h : List Entry) (undoers : List (Option ℕ)) : Type 0 where
  pub as_many : length undoers ≡ length h
  pub each : (i : ℕ) → i < length h → get_or undoers i None ≡ undoer h (i + 1)
