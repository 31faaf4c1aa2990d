-- An action: what a user does to the tree, and in which format; and which formats have a change.
use Rattle.std.specs.Prelude.{ℕ, ◌^◌, ◌-◌, min, Bool, true, false, List, [], ◌∷◌, Option, None, Some, length}
use Rattle.std.specs.List.{sum_by}
use Rattle.su_bytes.specs.declared.formats.Format.{Format}
use Rattle.su_bytes.specs.declared.formats.Format.TheVariants.{V1, V2, V3, V4}
use Rattle.su_op.specs.declared.operations.Op.{Op}
use Rattle.su_op.specs.declared.operations.Op.TheVariants.{Drop, Write}
use Rattle.su_op.specs.declared.operations.Change.{Change}
use Rattle.su_op.specs.declared.operations.Change.TheVariants.{Do, Undo, Rekey}

-- an operation by a user, made in a format
pub record Action : Type 0 where
  pub author : ℕ
  pub format : Format
  pub op : Op

-- that operation, by that user, in that format
abbrev pub action_by : ℕ → Format → Op → Action
action_by a format op = record { author = a; format = format; op = op }

-- ---- formats

-- the oldest format that has the operation
abbrev pub oldest_format : Op → Format
oldest_format (Drop d) = V2
oldest_format _ = V1

-- the oldest format that has the operations of a batch: more than one are made together from the
-- fourth on
abbrev pub batch_format : List Op → Format
batch_format (op ∷ []) = oldest_format op
batch_format _ = V4

-- the oldest format that has the change; each has an undo
abbrev pub change_format : Change → Format
change_format (Do ops) = batch_format ops
change_format (Undo n) = V1
change_format (Rekey k) = V3

-- ---- how many operations

-- the change is a batch of more than one operation
abbrev pub is_many : Change → Bool
is_many (Do (op ∷ next ∷ ops)) = true
is_many _ = false

-- the operation of a batch that has just one
abbrev pub only_of : List Op → Option Op
only_of (op ∷ []) = Some op
only_of _ = None

-- a batch of the operations, if there are any
abbrev pub some_batch : List Op → Option (List Op)
some_batch [] = None
some_batch (op ∷ ops) = Some (op ∷ ops)

-- the operation of a change that is just one
abbrev pub operation_of_change : Change → Option Op
operation_of_change (Do ops) = only_of ops
operation_of_change _ = None

-- ---- bytes

-- how many bytes an operation writes
abbrev pub bytes_by : Op → ℕ
bytes_by (Write w) = length w.bytes
bytes_by _ = 0

-- an operation; a write of no bytes where it is a write
abbrev pub op_without_bytes : Op → Op
op_without_bytes (Write w) = Write (record { file = w.file; off = w.off; bytes = [] })
op_without_bytes op = op

-- how many bytes the operations of a batch write; 2^64 - 1 where more than one of them write more
abbrev pub batch_bytes : List Op → ℕ
batch_bytes (op ∷ []) = bytes_by op
batch_bytes ops = min (sum_by bytes_by ops) (2 ^ 64 - 1)

-- ---- keys

-- the key that the change names as its author's next one, if it names one
abbrev pub named_key : Change → Option (List ℕ)
named_key (Rekey k) = Some k
named_key _ = None
