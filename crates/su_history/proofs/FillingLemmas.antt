-- The file of an operation alone, by what a history tells of an entry.
use Rattle.std.proofs.Common.{◌≡◌, Option, None, Some, refl}
use Rattle.std.specs.Option.{option_and_then}
use Rattle.su_bytes.specs.declared.file_ids.FileId.{FileId}
use Rattle.su_bytes.specs.declared.file_ids.Kind.{Kind}
use Rattle.su_bytes.specs.declared.file_ids.Kind.TheVariants.{File, Dir}
use Rattle.su_op.specs.declared.operations.Op.{Op}
use Rattle.su_op.specs.declared.operations.Op.TheVariants.{Create, Unlink, Write, Truncate, Take, Link, Rename, Drop}
use Rattle.su_op.specs.declared.operations.Change.{Change}
use Rattle.su_op.specs.Action.{operation_of_change}
use Rattle.su_desk.specs.declared.fillings.Filling.{Filling}
use Rattle.su_desk.specs.declared.fillings.Filling.TheVariants.{Makes, Edits, Neither}
use Rattle.su_desk.specs.Filling.{filling, filling_by, filling_made, filling_of}
use Rattle.su_history.specs.Line.{edited, edited_by, filled, filled_by, made}

-- the file that is made, written to or cut
abbrev pub filled_in : Filling → Option FileId
filled_in (Makes f) = Some f
filled_in (Edits f) = Some f
filled_in Neither = None

-- the file that is written to or cut
abbrev pub edited_in : Filling → Option FileId
edited_in (Makes f) = None
edited_in (Edits f) = Some f
edited_in Neither = None

filled_made : (k : Kind) (f : FileId) → filled_in (filling_made k f) ≡ made k f
filled_made File f = refl
filled_made Dir f = refl

edited_made : (k : Kind) (f : FileId) → edited_in (filling_made k f) ≡ None
edited_made File f = refl
edited_made Dir f = refl

filled_alone : (o : Option Op) → filled_in (filling_of o) ≡ option_and_then filled_by o
filled_alone None = refl
filled_alone (Some (Create c)) = filled_made c.kind c.file
filled_alone (Some (Unlink u)) = refl
filled_alone (Some (Write w)) = refl
filled_alone (Some (Truncate t)) = refl
filled_alone (Some (Take t)) = refl
filled_alone (Some (Link l)) = refl
filled_alone (Some (Rename r)) = refl
filled_alone (Some (Drop d)) = refl

edited_alone : (o : Option Op) → edited_in (filling_of o) ≡ option_and_then edited_by o
edited_alone None = refl
edited_alone (Some (Create c)) = edited_made c.kind c.file
edited_alone (Some (Unlink u)) = refl
edited_alone (Some (Write w)) = refl
edited_alone (Some (Truncate t)) = refl
edited_alone (Some (Take t)) = refl
edited_alone (Some (Link l)) = refl
edited_alone (Some (Rename r)) = refl
edited_alone (Some (Drop d)) = refl

pub filled_told : (c : Change) → filled_in (filling c) ≡ filled c
filled_told c = filled_alone (operation_of_change c)

pub edited_told : (c : Change) → edited_in (filling c) ≡ edited c
edited_told c = edited_alone (operation_of_change c)
