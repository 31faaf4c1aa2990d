use Rattle.std.proofs.Common.{length}
use Rattle.su_kept_areas.specs.Marks.{read_marks}
use Rattle.su_live.proofs.ReadersLemmas.{OthersPassed}
use Rattle.su_live.proofs.entering.has_mark.Given as goal

abbrev pub invariant-loop-other : goal.invariant-loop-other
invariant-loop-other l = OthersPassed (read_marks l.footprint.reads.items) l.mark l.marks

abbrev pub decreases-loop-other : goal.decreases-loop-other
decreases-loop-other l = length l.marks
