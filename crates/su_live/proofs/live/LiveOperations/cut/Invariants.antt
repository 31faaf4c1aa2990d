use Rattle.std.proofs.Common.{◌≡◌, length}
use Rattle.su_live.specs.Live.{cut_live}
use Rattle.su_live.proofs.live.LiveOperations.cut.Given as goal

abbrev pub invariant-loop-first : goal.invariant-loop-first
invariant-loop-first g l = cut_live l.number l.self ≡ cut_live l.number l.initial.self

abbrev pub decreases-loop-first : goal.decreases-loop-first
decreases-loop-first g l = length l.self
