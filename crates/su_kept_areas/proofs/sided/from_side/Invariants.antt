use Rattle.std.proofs.Common.{length}
use Rattle.su_kept_areas.proofs.SidedLemmas.{ArePassed}
use Rattle.su_kept_areas.proofs.sided.from_side.Given as goal

abbrev pub invariant-loop-side : goal.invariant-loop-side
invariant-loop-side l = ArePassed l.side l.bytes l.left

abbrev pub decreases-loop-side : goal.decreases-loop-side
decreases-loop-side l = length l.left
