-- A take of a group file, in bytes.
use Rattle.std.specs.Prelude.{◌≡◌, ℕ, true, List, ◌++◌}
use Rattle.su_bytes.specs.FileId.{is_file_id, is_inum, file_id_bytes}
use Rattle.su_op.specs.declared.take.Take.{Take as Take_}
use Rattle.su_op.specs.declared.operations.Op.{Op}
use Rattle.su_op.specs.declared.operations.Op.TheVariants.{Take}
use Rattle.su_format.specs.Format.{Format, making, ◌>>=◌}
use Rattle.su_format.specs.Part.{file_id_part, u32_bytes, inum_part}

-- its file and its number are in their ranges
pub record IsTake (t : Take_) : Type 0 where
  pub file : is_file_id t.file ≡ true
  pub body : is_inum t.body ≡ true

-- the file, and the number of the new body
abbrev pub take_bytes : Take_ → List ℕ
take_bytes t = file_id_bytes t.file ++ u32_bytes t.body

-- its parts, in that order, and the operation that they make
unfoldable pub take_fields : Format Op
take_fields = do
  file ← file_id_part
  body ← inum_part
  making (Take (record { file = file; body = body }))
