use Rattle.std.proofs.Common.{◌≡◌, ◌++◌, take}
use Rattle.std.specs.List.{flat_map, AllByRecursion}
use Rattle.su_change.specs.Operation.{IsOp, op_bytes}
use Rattle.su_change.proofs.batch.write_operations.Given as goal

abbrev pub invariant-loop-operation : goal.invariant-loop-operation
invariant-loop-operation l = record {
  are : AllByRecursion IsOp (take l.operation-index l.operations);
  written : l.writer ≡ l.initial.writer ++ flat_map op_bytes (take l.operation-index l.operations);
}
