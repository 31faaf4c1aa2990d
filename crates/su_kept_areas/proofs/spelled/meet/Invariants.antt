use Rattle.std.proofs.Common.{List, length}
use Rattle.std.specs.List.{list_any}
use Rattle.su_op.specs.Area.{overlaps}
use Rattle.su_op.specs.declared.areas.Area.{Area}
use Rattle.su_kept_areas.specs.Sided.{Spells}
use Rattle.su_kept_areas.specs.declared.marks.Side.TheVariants.{Read, Written}
use Rattle.su_kept_areas.proofs.Lists.{Leaves}
use Rattle.su_kept_areas.proofs.spelled.meet.Given as goal

abbrev pub invariant-loop-left : goal.invariant-loop-left
invariant-loop-left l = (w : List Area) → Spells Written l.others w → Leaves Read (λ a. list_any (overlaps a) w) l.bytes l.left

abbrev pub decreases-loop-left : goal.decreases-loop-left
decreases-loop-left l = length l.left
