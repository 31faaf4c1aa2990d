use Rattle.std.proofs.Common.{◌≡◌, ◌≤◌, ◌+◌, ◌*◌, length, take}
use Rattle.std.specs.List.{flat_map, AllByRecursion}
use Rattle.su_change.specs.Operation.{CanBeSpelled, op_bytes}
use Rattle.su_change.proofs.batch.size.Given as goal

abbrev pub invariant-loop-next : goal.invariant-loop-next
invariant-loop-next l = record {
  spelled : AllByRecursion CanBeSpelled (take l.next-index l.more);
  size : l.size ≡ l.initial.size + length (flat_map op_bytes (take l.next-index l.more));
  few : l.size ≤ 65551 * (l.next-index + 1);
}
