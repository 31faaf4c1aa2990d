use Rattle.std.proofs.Common.{ℕ, take, sym, subst}
use Rattle.su_client.specs.Following.{follows_on}
use Rattle.su_client_work.proofs.Public.{asks_then}
use Rattle.su_person.specs.Carrying.{IsPlanned, IsPlannedStep}
use Rattle.su_person.proofs.StepLemmas.{planned_in_part}
use Rattle.su_person.proofs.steps.+plan_some.Goals as goal

pub returns-then-count-eq1-clause-planned : goal.returns-then-count-eq1-clause-planned
returns-then-count-eq1-clause-planned g t c =
    λ clear.
    let its = c.args.commands.now in
    let v = c.args.member.now.holding in
    let ops = c.in_ok-operations.operations.items in
    subst (IsPlannedStep its v 0) (sym c.truncate.ensures.items)
    (planned_in_part its v c.max.result ops (subst (λ (n : ℕ). IsPlanned (take n its) v ops) c.if-count-eq1.true (c.in_ok-operations.ensures.planned clear)))

pub returns-clause-asks : goal.returns-clause-asks
returns-clause-asks g t c = asks_then c.args.member.now c.plan_held.new.self c.plan_some.new.member c.plan_held.ensures.asks c.plan_some.ensures.asks

pub returns-clause-follows : goal.returns-clause-follows
returns-clause-follows g t c =
    follows_on c.args.member.now.link c.plan_held.new.self.link c.plan_some.new.member.link c.plan_held.ensures.follows c.plan_some.ensures.follows
