use Rattle.su_live.proofs.BlockerLemmas.{NoneReadsBetween}
use Rattle.su_live.proofs.live.LiveOperations.last_scanned.Given as goal

abbrev pub invariant-loop-number : goal.invariant-loop-number
invariant-loop-number g l = NoneReadsBetween l.written.writes.items l.self l.bound l.up_to

abbrev pub decreases-loop-number : goal.decreases-loop-number
decreases-loop-number g l = l.bound
