-- A write, as it is seen: what is written, and where.
use Rattle.std.specs.Prelude.{ℕ, List}
use Rattle.su_bytes.specs.declared.file_ids.FileId.{FileId}

-- the file, where in it the bytes begin, and the bytes
pub record Writing : Type 0 where
  pub file : FileId
  pub off : ℕ
  pub bytes : List ℕ
