use Rattle.std.proofs.Common.{length}
use Rattle.su_op.specs.Area.{overlaps}
use Rattle.su_kept_areas.specs.Lent.{area_of}
use Rattle.su_kept_areas.specs.declared.marks.Side.TheVariants.{Written}
use Rattle.su_kept_areas.proofs.Lists.{Leaves}
use Rattle.su_kept_areas.proofs.spelled.overlaps_one.Given as goal

abbrev pub invariant-loop-left : goal.invariant-loop-left
invariant-loop-left l = Leaves Written (overlaps (area_of l.area)) l.others l.left

abbrev pub decreases-loop-left : goal.decreases-loop-left
decreases-loop-left l = length l.left
