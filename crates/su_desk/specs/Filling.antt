-- What a change of one operation does to the bytes of a file.
use Rattle.std.specs.Prelude.{Option, None, Some}
use Rattle.su_bytes.specs.declared.file_ids.FileId.{FileId}
use Rattle.su_bytes.specs.declared.file_ids.Kind.{Kind}
use Rattle.su_bytes.specs.declared.file_ids.Kind.TheVariants.{File, Dir}
use Rattle.su_op.specs.declared.operations.Op.{Op}
use Rattle.su_op.specs.declared.operations.Op.TheVariants.{Create, Write, Truncate}
use Rattle.su_op.specs.declared.operations.Change.{Change}
use Rattle.su_op.specs.Action.{operation_of_change}
use Rattle.su_desk.specs.declared.fillings.Filling.{Filling}
use Rattle.su_desk.specs.declared.fillings.Filling.TheVariants.{Makes, Edits, Neither}

-- of the making of a file or a directory
abbrev pub filling_made : Kind → FileId → Filling
filling_made File f = Makes f
filling_made Dir f = Neither

-- an operation makes a file, writes to it or cuts it, or does neither
abbrev pub filling_by : Op → Filling
filling_by (Create c) = filling_made c.kind c.file
filling_by (Write w) = Edits w.file
filling_by (Truncate t) = Edits t.file
filling_by _ = Neither

-- the same where there is an operation
abbrev pub filling_of : Option Op → Filling
filling_of None = Neither
filling_of (Some op) = filling_by op

-- that of a change
abbrev pub filling : Change → Filling
filling c = filling_of (operation_of_change c)
