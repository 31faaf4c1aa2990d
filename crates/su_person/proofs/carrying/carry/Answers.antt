use Rattle.std.proofs.Common.{◌≡◌, ◌++◌, List, ℕ, Option, refl, sym, subst}
use Rattle.su_draft.specs.declared.commands.Command.{Command}
use Rattle.su_client_work.proofs.Public.{works_same, works_then}
use Rattle.su_person.specs.declared.steps.Step.{Step}
use Rattle.su_person.specs.Carrying.{IsStepped}
use Rattle.su_person.proofs.StepLemmas.{SoFar, begins, goes_on, few_of, stops_along, stops_behind}
use Rattle.su_person.proofs.carrying.carry.Goals as goal

pub loop-init : goal.loop-init
loop-init g c = record {
  works = works_same c.args.member.now c.args.member.now refl;
  so_far = begins c.args.others c.args.commands.now c.args.member.now c.args.numbers.now.items;
}

pub returns-in_err-step-clause-works : goal.returns-in_err-step-clause-works
returns-in_err-step-clause-works g c = works_then c.args.member.now c.loop.member c.step.new.member c.loop.invariant.works c.step.ensures.works

pub returns-in_err-step-clause-some : goal.returns-in_err-step-clause-some
returns-in_err-step-clause-some g c =
    stops_behind c.args.others c.args.commands.now c.args.member.now c.args.numbers.now.items c.loop.member c.step.new.member c.loop.left.now c.loop.numbers.items
    c.step.new.numbers.items c.loop.invariant.so_far c.in_err-step.ensures.some

pub returns-in_default-clause-works : goal.returns-in_default-clause-works
returns-in_default-clause-works g c = works_then c.args.member.now c.loop.member c.step.new.member c.loop.invariant.works c.step.ensures.works

pub returns-in_default-clause-some : goal.returns-in_default-clause-some
returns-in_default-clause-some g c =
    stops_along c.args.others c.args.commands.now c.args.member.now c.args.numbers.now.items c.loop.member c.step.new.member c.loop.left.now c.loop.numbers.items
    c.step.new.numbers.items c.loop.invariant.so_far
    (subst (λ (o : Option Step). (ns : List ℕ) × (c.step.new.numbers.items ≡ c.loop.numbers.items ++ ns)
    × IsStepped c.args.others c.loop.left.now c.loop.member o ns c.step.new.member) c.in_default.is c.in_ok-step.ensures.steps)

pub behind-left-requires : goal.behind-left-requires
behind-left-requires g c = few_of c.in_ok-step.field-0 c.in-Some.step c.loop.left.now c.in-Some.is c.in_ok-step.ensures.few

pub loop-preserved : goal.loop-preserved
loop-preserved g c = record {
  works = works_then c.args.member.now c.loop.member c.step.new.member c.loop.invariant.works c.step.ensures.works;
  so_far =
      subst (λ (l : List Command). SoFar c.args.others c.args.commands.now c.args.member.now c.args.numbers.now.items c.step.new.member l c.step.new.numbers.items)
      (sym c.behind-left.ensures)
      (goes_on c.args.others c.args.commands.now c.args.member.now c.args.numbers.now.items c.loop.member c.step.new.member c.loop.left.now c.loop.numbers.items
      c.step.new.numbers.items c.in-Some.step c.loop.invariant.so_far
      (subst (λ (o : Option Step). (ns : List ℕ) × (c.step.new.numbers.items ≡ c.loop.numbers.items ++ ns)
      × IsStepped c.args.others c.loop.left.now c.loop.member o ns c.step.new.member) c.in-Some.is c.in_ok-step.ensures.steps));
}
