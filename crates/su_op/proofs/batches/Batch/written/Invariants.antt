use Rattle.std.proofs.Common.{◌≡◌, ◌+◌, ◌-◌, ◌^◌, take, min}
use Rattle.std.specs.List.{sum_by}
use Rattle.su_op.specs.Action.{bytes_by}
use Rattle.su_op.proofs.batches.Batch.written.Given as goal

abbrev pub invariant-loop-operation : goal.invariant-loop-operation
invariant-loop-operation l = l.bytes ≡ min (l.initial.bytes + sum_by bytes_by (take l.operation-index l.operation-items)) (2 ^ 64 - 1)
