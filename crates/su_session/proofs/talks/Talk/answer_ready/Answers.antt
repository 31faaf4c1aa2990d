use Rattle.std.proofs.Common.{◌∙◌, refl, None}
use Rattle.su_session.proofs.Going.{goes-none, goes-then, goes-end}
use Rattle.su_session.proofs.talks.Talk.answer_ready.Goals as goal

pub loop-end-init : goal.loop-end-init
loop-end-init g c = (refl, λ known. goes-none g.S.Service.answers _)

pub loop-end-smaller : goal.loop-end-smaller
loop-end-smaller g c = (c.in-Answered.ensures.says None).1

pub loop-end-preserved : goal.loop-end-preserved
loop-end-preserved g c = (c.in-Answered.ensures.reads ∙ c.loop-end.invariant.0, λ known. goes-then g.S.Service.answers _ _ _ (c.loop-end.invariant.1 known) (c.in-Answered.ensures.says known).0)

pub returns-in-Waits : goal.returns-in-Waits
returns-in-Waits g c = record { reads = c.in-Waits.ensures.reads ∙ c.loop-end.invariant.0; says = λ known. (goes-then g.S.Service.answers _ _ _ (c.loop-end.invariant.1 known) (c.in-Waits.ensures.says known).0, (c.in-Waits.ensures.says known).1) }

pub returns-in-Ends : goal.returns-in-Ends
returns-in-Ends g c = record { reads = c.in-Ends.ensures.reads ∙ c.loop-end.invariant.0; says = λ known. goes-end g.S.Service.answers _ _ _ _ (c.loop-end.invariant.1 known) (c.in-Ends.ensures.says known) }
