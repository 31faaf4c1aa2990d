use Rattle.std.proofs.Common.{length}
use Rattle.su_kept_areas.proofs.Lists.{AreRead}
use Rattle.su_kept_areas.proofs.spelled.take_areas.Given as goal

abbrev pub invariant-loop-left : goal.invariant-loop-left
invariant-loop-left l = AreRead l.side l.bytes l.areas.items l.left

abbrev pub decreases-loop-left : goal.decreases-loop-left
decreases-loop-left l = length l.left
