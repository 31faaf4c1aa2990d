-- Several operations of one entry, as a line tells of them.
use Rattle.std.specs.Prelude.{ℕ, List}
use Rattle.su_bytes.specs.declared.file_ids.FileId.{FileId}

-- how many they are, how many bytes they write, and the files and directories that they name
pub record SeveralOperations : Type 0 where
  pub operations : ℕ
  pub bytes : ℕ
  pub files : List FileId
