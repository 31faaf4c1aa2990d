use Rattle.std.proofs.Common.{◌≡◌, ◌++◌, take}
use Rattle.std.specs.List.{flat_map, AllByRecursion}
use Rattle.su_change.specs.Operation.{IsOp}
use Rattle.su_change.specs.Outline.{op_outline}
use Rattle.su_change.proofs.outlines.write_operations.Given as goal

abbrev pub invariant-loop-operation : goal.invariant-loop-operation
invariant-loop-operation l = record {
  are : AllByRecursion IsOp (take l.operation-index l.operations);
  written : l.writer ≡ l.initial.writer ++ flat_map op_outline (take l.operation-index l.operations);
}
