use Rattle.std.proofs.Common.{◌∙◌, inl, ap, sym, subst}
use Rattle.su_op.specs.declared.operations.Change.TheVariants.{Do}
use Rattle.su_view.specs.Holding.{HoldingState}
use Rattle.su_client_work.specs.Member.{MemberState}
use Rattle.su_client_work.specs.Publishing.{SignsAtMost}
use Rattle.su_client_work.proofs.Public.{asks_stays, asks_then, most_after, only_asks, published_after, works_asks, works_then}
use Rattle.su_person.proofs.StepLemmas.{committed, on_err, tries_batch, uncommitted}
use Rattle.su_person.proofs.steps.commit_next.Goals as goal

-- ---- nothing was planned

pub returns-in-Err-clause-works : goal.returns-in-Err-clause-works
returns-in-Err-clause-works g c =
    works_asks c.args.member.now c.give_up.new.self
    (asks_then c.args.member.now c.plan_some.new.member c.give_up.new.self c.plan_some.ensures.asks (asks_stays c.plan_some.new.member c.give_up.new.self c.give_up.ensures.stays))

pub returns-in-Err-clause-tries : goal.returns-in-Err-clause-tries
returns-in-Err-clause-tries g c =
    inl (asks_then c.args.member.now c.plan_some.new.member c.give_up.new.self c.plan_some.ensures.asks (asks_stays c.plan_some.new.member c.give_up.new.self c.give_up.ensures.stays))

-- ---- there are no operations

pub returns-in_default-clause-works : goal.returns-in_default-clause-works
returns-in_default-clause-works g c =
    works_asks c.args.member.now c.give_up-in_default.new.self
    (asks_then c.args.member.now c.plan_some.new.member c.give_up-in_default.new.self c.plan_some.ensures.asks
    (asks_stays c.plan_some.new.member c.give_up-in_default.new.self c.give_up-in_default.ensures.stays))

pub returns-in_default-clause-steps : goal.returns-in_default-clause-steps
returns-in_default-clause-steps g c =
    let kept = asks_stays c.plan_some.new.member c.give_up-in_default.new.self c.give_up-in_default.ensures.stays in
    let asks = asks_then c.args.member.now c.plan_some.new.member c.give_up-in_default.new.self c.plan_some.ensures.asks kept in
    record {
      few = c.in-Ok.ensures.few;
      operations = c.in-Ok.planned.operations.items;
      planned = λ clear. c.in-Ok.ensures.planned (kept.clear clear);
      clear = asks.clear;
      commits = uncommitted c.in-Ok.planned.operations.items c.args.member.now c.give_up-in_default.new.self (sym c.in_default.is ∙ c.of_operations.ensures) asks;
    }

-- ---- they are committed

pub returns-in_err-number-clause-works : goal.returns-in_err-number-clause-works
returns-in_err-number-clause-works g c =
    works_then c.args.member.now c.plan_some.new.member c.publish.new.self (works_asks c.args.member.now c.plan_some.new.member c.plan_some.ensures.asks) c.publish.ensures.works

pub returns-in_err-number-clause-tries : goal.returns-in_err-number-clause-tries
returns-in_err-number-clause-tries g c =
    let asks = c.plan_some.ensures.asks in
    let batch = c.in-Some.batch in
    let back = c.publish.ensures.works.clear in
    on_err c.from_residual.result _
    (tries_batch c.args.commands.now c.in-Ok.planned.done c.in-Ok.planned.operations.items batch c.args.member.now c.publish.new.self
    (sym c.in-Some.is ∙ c.of_operations.ensures) (λ clear. c.in-Ok.ensures.planned (back clear)) (λ clear. asks.clear (back clear))
    (subst (λ (v : HoldingState). SignsAtMost v (Do batch) c.args.member.now c.publish.new.self) asks.holding
    (most_after c.plan_some.new.member.holding (Do batch) c.args.member.now c.plan_some.new.member c.publish.new.self (only_asks c.args.member.now c.plan_some.new.member asks) c.publish.ensures.signs))
    (c.in_err-number.ensures.err ∙ asks.holding))

pub returns-clause-works : goal.returns-clause-works
returns-clause-works g c =
    works_then c.args.member.now c.plan_some.new.member c.publish.new.self (works_asks c.args.member.now c.plan_some.new.member c.plan_some.ensures.asks) c.publish.ensures.works

pub returns-clause-steps : goal.returns-clause-steps
returns-clause-steps g c =
    let ops = c.in-Ok.planned.operations.items in
    let batch = c.in-Some.batch in
    let back = c.publish.ensures.works.clear in
    record {
      few = c.in-Ok.ensures.few;
      operations = ops;
      planned = λ clear. c.in-Ok.ensures.planned (back clear);
      clear = λ clear. c.plan_some.ensures.asks.clear (back clear);
      commits = committed ops batch c.args.member.now c.publish.new.self c.in_ok-number.number (sym c.in-Some.is ∙ c.of_operations.ensures)
          (published_after (Do batch) c.args.member.now c.plan_some.new.member c.publish.new.self c.in_ok-number.number c.plan_some.ensures.asks c.plan_some.ensures.follows
          c.in_ok-number.ensures.published);
    }
