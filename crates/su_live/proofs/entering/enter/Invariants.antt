use Rattle.std.proofs.Common.{length}
use Rattle.su_kept_areas.specs.Marks.{read_marks}
use Rattle.su_live.proofs.ReadersLemmas.{CameTo}
use Rattle.su_live.proofs.entering.enter.Given as goal

abbrev pub invariant-loop-mark : goal.invariant-loop-mark
invariant-loop-mark l = CameTo l.number (read_marks l.footprint.reads.items) l.initial.readers l.readers l.marks

abbrev pub decreases-loop-mark : goal.decreases-loop-mark
decreases-loop-mark l = length l.marks
