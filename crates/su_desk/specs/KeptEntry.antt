-- What is known of a change whose entry a history keeps in memory.
use Rattle.std.specs.Prelude.{ℕ, Bool, true, false, map, Option, None, Some}
use Rattle.su_op.specs.declared.operations.Change.{Change}
use Rattle.su_op.specs.declared.operations.Change.TheVariants.{Do, Undo}
use Rattle.su_op.specs.Action.{batch_bytes, op_without_bytes}

-- a change; its writes are of no bytes
abbrev pub without_bytes : Change → Change
without_bytes (Do ops) = Do (map op_without_bytes ops)
without_bytes c = c

-- how many bytes a change writes
abbrev pub written : Change → ℕ
written (Do ops) = batch_bytes ops
written _ = 0

-- the number of the entry that a change undoes, if it is an undo
abbrev pub undone : Change → Option ℕ
undone (Undo n) = Some n
undone _ = None

-- a change is operations
abbrev pub is_operation : Change → Bool
is_operation (Do ops) = true
is_operation _ = false
