-- A write of bytes into a file, in bytes.
use Rattle.std.specs.Prelude.{◌≡◌, ◌≤◌, ◌<◌, ◌^◌, ℕ, true, List, ◌++◌, length}
use Rattle.su_bytes.specs.FileId.{is_file_id, file_id_bytes}
use Rattle.su_op.specs.Limits.{largest_write}
use Rattle.su_op.specs.Writing.{Writing}
use Rattle.su_op.specs.declared.operations.Op.{Op}
use Rattle.su_op.specs.declared.operations.Op.TheVariants.{Write}
use Rattle.su_format.specs.Format.{Format, part, making, ◌>>=◌}
use Rattle.su_format.specs.Part.{u32_bytes, u32_part, bytes_part, file_id_part}

-- its file and its offset are in their ranges
pub record IsWrite (w : Writing) : Type 0 where
  pub file : is_file_id w.file ≡ true
  pub off : w.off < 2 ^ 32

-- a write may have so many bytes in an item: 1 to 65,536
abbrev pub IsLength : ℕ → Type 0
IsLength n = (1 ≤ n) × (n ≤ largest_write)

-- this one has so many
abbrev pub HasLength : Writing → Type 0
HasLength w = IsLength (length w.bytes)

-- the file, the offset, how many bytes there are, and these
abbrev pub write_bytes : Writing → List ℕ
write_bytes w =
    file_id_bytes w.file ++ (u32_bytes w.off ++ (u32_bytes (length w.bytes) ++ w.bytes))

-- how many bytes there are, as a part
unfoldable pub length_part : Format ℕ
length_part = part IsLength u32_bytes

-- its parts, in that order, and the operation that they make
unfoldable pub write_fields : Format Op
write_fields = do
  file ← file_id_part
  off ← u32_part
  n ← length_part
  bytes ← bytes_part n
  making (Write (record { file = file; off = off; bytes = bytes }))
