use Rattle.std.proofs.Common.{◌≡◌, ◌≤◌, [], drop, length}
use Rattle.std.specs.List.{filter}
use Rattle.su_history.specs.Line.{is_no_take}
use Rattle.su_history.proofs.deeds.last_op.Given as goal

abbrev pub invariant-loop-index : goal.invariant-loop-index
invariant-loop-index l = record {
  within : l.index ≤ length l.behind;
  takes : filter is_no_take (drop l.index l.behind) ≡ [];
}
