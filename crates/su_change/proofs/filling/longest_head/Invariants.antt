use Rattle.std.proofs.Common.{◌≡◌, ◌⊎◌, ◌≤◌, ◌*◌, length, take}
use Rattle.std.specs.List.{flat_map, AllByRecursion}
use Rattle.su_change.specs.Filling.{HasRoom}
use Rattle.su_change.specs.Operation.{CanBeSpelled, op_bytes}
use Rattle.su_change.proofs.filling.longest_head.Given as goal

abbrev pub invariant-loop-count : goal.invariant-loop-count
invariant-loop-count l = record {
  spelled : AllByRecursion CanBeSpelled (take l.count l.operations);
  bytes : l.bytes ≡ length (flat_map op_bytes (take l.count l.operations));
  few : l.bytes ≤ 65551 * l.count;
  room : (l.count ≡ 0) ⊎ HasRoom l.count l.bytes;
}
