use Rattle.std.proofs.Common.{◌≡◌, ℕ, List, Option, length}
use Rattle.su_session.specs.Step.{Goes, at}
use Rattle.su_session.proofs.talks.Talk.answer_ready.Given as goal

abbrev pub invariant-loop-end : goal.invariant-loop-end
invariant-loop-end g l =
    (l.self.reads ≡ l.fn.self.reads) × ((known : Option (List ℕ)) → Goes g.S.Service.answers (at l.fn.service l.fn.self known (g.W.Write.contents l.fn.writer)) (at l.service l.self known (g.W.Write.contents l.writer)))

abbrev pub decreases-loop-end : goal.decreases-loop-end
decreases-loop-end g l = length l.self.frames
