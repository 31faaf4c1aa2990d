use Rattle.std.proofs.Common.{◌≡◌, ◌++◌, map, take, drop}
use Rattle.su_op.specs.Action.{op_without_bytes}
use Rattle.su_op.proofs.batches.Batch.leave_bytes.Given as goal

abbrev pub invariant-loop-operation : goal.invariant-loop-operation
invariant-loop-operation l = l.operation-items ≡ map op_without_bytes (take l.operation-index l.initial.operation-items) ++ drop l.operation-index l.initial.operation-items
