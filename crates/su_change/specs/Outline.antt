-- The outline of a batch: its operations in bytes, without the bytes that they write. A history keeps
-- it of a batch.
use Rattle.std.specs.Prelude.{◌≡◌, ◌≤◌, ◌<◌, ◌^◌, ℕ, List, [], ◌∷◌, ◌++◌, length}
use Rattle.std.specs.List.{flat_map, AllByRecursion}
use Rattle.su_bytes.specs.FileId.{file_id_bytes}
use Rattle.su_op.specs.Writing.{Writing}
use Rattle.su_op.specs.declared.operations.Op.{Op}
use Rattle.su_op.specs.declared.operations.Op.TheVariants.{Write}
use Rattle.su_format.specs.Format.{Format, part, making, ◌>>=◌, repeated}
use Rattle.su_format.specs.Part.{u32_bytes, u32_part, u64_bytes, file_id_part}
use Rattle.su_change.specs.Kinds.{one_of}
use Rattle.su_change.specs.NameAt.{link_fields, unlink_fields}
use Rattle.su_change.specs.Create.{create_fields}
use Rattle.su_change.specs.Truncate.{truncate_fields}
use Rattle.su_change.specs.Rename.{rename_fields}
use Rattle.su_change.specs.Take.{take_fields}
use Rattle.su_change.specs.DropBody.{drop_fields}
use Rattle.su_change.specs.Operation.{IsOp, op_bytes}

-- where a write writes: the file, and the offset
abbrev pub place_bytes : Writing → List ℕ
place_bytes w = file_id_bytes w.file ++ u32_bytes w.off

-- an operation: the number of its kind, and its fields; of a write, where it writes
abbrev pub op_outline : Op → List ℕ
op_outline (Write w) = 2 ∷ place_bytes w
op_outline op = op_bytes op

-- operations: how many there are, and these
abbrev pub outline_bytes : List Op → List ℕ
outline_bytes ops = u64_bytes (length ops) ++ flat_map op_outline ops

-- there may be so many of them
abbrev pub IsNumber : ℕ → Type 0
IsNumber n = (1 ≤ n) × (n < 2 ^ 64)

-- the bytes are the outline of these operations
pub record IsOutlineOf (ops : List Op) (bytes : List ℕ) : Type 0 where
  pub number : IsNumber (length ops)
  pub are : AllByRecursion IsOp ops
  pub spelled : bytes ≡ outline_bytes ops

-- they are one
abbrev pub IsOutline : List ℕ → Type 0
IsOutline bytes = (ops : List Op) × IsOutlineOf ops bytes

-- ---- its parts

-- where a write writes, and the write of no bytes that is made of it
unfoldable pub place_fields : Format Op
place_fields = do
  file ← file_id_part
  off ← u32_part
  making (Write (record { file = file; off = off; bytes = [] }))

-- the number of each kind of operation, and its fields
abbrev pub outline_kinds : List (ℕ × Format Op)
outline_kinds =
    (1, create_fields)
    ∷ (2, place_fields)
    ∷ (3, truncate_fields)
    ∷ (4, link_fields)
    ∷ (5, rename_fields)
    ∷ (6, unlink_fields)
    ∷ (7, take_fields)
    ∷ (8, drop_fields)
    ∷ []

-- the number of a kind of operation, and its fields
unfoldable pub outlined_op : Format Op
outlined_op = one_of outline_kinds

-- how many operations there are, as a part
unfoldable pub number_part : Format ℕ
number_part = part IsNumber u64_bytes

-- so many operations, one after another
unfoldable pub outlined_ops : ℕ → Format (List Op)
outlined_ops count = repeated (λ _. outlined_op) (λ _. 0) count 0

-- how many operations there are, and these
unfoldable pub outline_format : Format (List Op)
outline_format = do
  count ← number_part
  outlined_ops count
