use Rattle.std.proofs.Common.{length}
use Rattle.su_kept_areas.specs.Pointer.{is_pointer_of}
use Rattle.su_kept_areas.specs.declared.marks.Side.TheVariants.{Written}
use Rattle.su_kept_areas.proofs.Lists.{Leaves}
use Rattle.su_kept_areas.proofs.spelled.carries.Given as goal

abbrev pub invariant-loop-left : goal.invariant-loop-left
invariant-loop-left l = Leaves Written (is_pointer_of l.group) l.bytes l.left

abbrev pub decreases-loop-left : goal.decreases-loop-left
decreases-loop-left l = length l.left
