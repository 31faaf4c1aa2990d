use Rattle.std.proofs.Common.{length}
use Rattle.su_live.proofs.BlockerLemmas.{LastFound}
use Rattle.su_live.proofs.live.LiveOperations.last_entered.Given as goal

abbrev pub invariant-loop-mark : goal.invariant-loop-mark
invariant-loop-mark g l = LastFound l.written.writes.items l.self l.above l.last l.marks

abbrev pub decreases-loop-mark : goal.decreases-loop-mark
decreases-loop-mark g l = length l.marks
