-- A truncate of a file, in bytes.
use Rattle.std.specs.Prelude.{◌≡◌, ◌<◌, ◌^◌, ℕ, true, List, ◌++◌}
use Rattle.su_bytes.specs.FileId.{is_file_id, file_id_bytes}
use Rattle.su_op.specs.declared.truncate.Truncate.{Truncate as Truncate_}
use Rattle.su_op.specs.declared.operations.Op.{Op}
use Rattle.su_op.specs.declared.operations.Op.TheVariants.{Truncate}
use Rattle.su_format.specs.Format.{Format, making, ◌>>=◌}
use Rattle.su_format.specs.Part.{file_id_part, u32_bytes, u32_part}

-- its file and its size are in their ranges
pub record IsTruncate (t : Truncate_) : Type 0 where
  pub file : is_file_id t.file ≡ true
  pub size : t.size < 2 ^ 32

-- the file, and its size
abbrev pub truncate_bytes : Truncate_ → List ℕ
truncate_bytes t = file_id_bytes t.file ++ u32_bytes t.size

-- its parts, in that order, and the operation that they make
unfoldable pub truncate_fields : Format Op
truncate_fields = do
  file ← file_id_part
  size ← u32_part
  making (Truncate (record { file = file; size = size }))
