use Rattle.su_live.proofs.BlockerLemmas.{NoneReadsAbove}
use Rattle.su_live.proofs.live.LiveOperations.last_reader.Given as goal

abbrev pub invariant-loop-number : goal.invariant-loop-number
invariant-loop-number g l = NoneReadsAbove l.written.writes.items l.self l.mark l.above l.up_to

abbrev pub decreases-loop-number : goal.decreases-loop-number
decreases-loop-number g l = l.up_to
