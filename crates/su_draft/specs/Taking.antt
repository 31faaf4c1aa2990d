-- Which files the operations of a command take over first.
use Rattle.std.specs.Prelude.{◌≡◌, ℕ, Bool, false, ◌&&◌, ◌||◌, List, count_by, if◌then◌else◌}
use Rattle.std.specs.List.{list_any}
use Rattle.su_bytes.specs.declared.file_ids.FileId.{FileId}
use Rattle.su_bytes.specs.Place.{file_eq}
use Rattle.su_table.specs.Tree.{Tree}
use Rattle.su_table.specs.Query.{body}
use Rattle.su_op.specs.Take.{is_group_file}
use Rattle.su_op.specs.declared.operations.Op.{Op}
use Rattle.su_op.specs.declared.operations.Op.TheVariants.{Create, Unlink, Write, Truncate, Take, Link, Rename, Drop}
use Rattle.su_draft.specs.Draft.{is_others, takes}

-- The operation writes the file or directory in its place, so that its author must hold it. (A take
-- writes a copy. A rename doesn't write its file. To what a drop takes away no file id leads.)
abbrev pub writes_to : FileId → Op → Bool
writes_to f (Create c) = file_eq c.dir f
writes_to f (Unlink u) = file_eq u.dir f || file_eq u.file f
writes_to f (Write w) = file_eq w.file f
writes_to f (Truncate t) = file_eq t.file f
writes_to f (Take t) = false
writes_to f (Link l) = file_eq l.dir f || file_eq l.file f
writes_to f (Rename r) = file_eq r.from_ f || file_eq r.to_ f
writes_to f (Drop d) = false

-- a group file that another user than a holds
abbrev pub is_held_by_others : Tree → ℕ → FileId → Bool
is_held_by_others T a f = is_group_file f && is_others a (body T f)

-- Of the operations of user a: a group file that they write and that another user holds is taken
-- over once, and nothing else is.
abbrev pub TakesWhatItMust : Tree → ℕ → List Op → Type 0
TakesWhatItMust T a ops = (f : FileId)
    → count_by (takes f) ops ≡ (if list_any (writes_to f) ops && is_held_by_others T a f then 1 else 0)
