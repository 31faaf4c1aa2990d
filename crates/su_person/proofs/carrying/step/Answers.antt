use Rattle.std.proofs.Common.{◌∙◌, ◌++◌, [], List, ℕ, inl, refl, sym, ap, append-nil}
use Rattle.su_client_work.proofs.Public.{works_same, works_then}
use Rattle.su_person.specs.Carrying.{numbers_of}
use Rattle.su_person.proofs.StepLemmas.{goes_along, made, on_err, refused}
use Rattle.su_person.proofs.carrying.step.Goals as goal

pub returns-in_err-reserve-clause-some : goal.returns-in_err-reserve-clause-some
returns-in_err-reserve-clause-some g c =
    on_err c.from_residual.result _
    (goes_along c.args.others c.args.commands.now c.args.member.now c.args.numbers.now.items c.args.member.now c.reserve.new.self.items
    c.reserve.ensures.items (c.args.member.now, inl refl, inl refl))

pub returns-in_err-begin-clause-some : goal.returns-in_err-begin-clause-some
returns-in_err-begin-clause-some g c =
    on_err c.from_residual-in_err-begin.result _
    (goes_along c.args.others c.args.commands.now c.args.member.now c.args.numbers.now.items c.begin.new.member c.reserve.new.self.items
    c.reserve.ensures.items c.begin.ensures.takes)

pub returns-then-not-branch-clause-steps : goal.returns-then-not-branch-clause-steps
returns-then-not-branch-clause-steps g c =
    ([], c.reserve.ensures.items ∙ sym (append-nil c.args.numbers.now.items), (refl, c.begin.ensures.takes))

pub returns-in_err-step-clause-works : goal.returns-in_err-step-clause-works
returns-in_err-step-clause-works g c =
    works_then c.args.member.now c.begin.new.member c.commit_next.new.member c.begin.ensures.works c.commit_next.ensures.works

pub returns-in_err-step-clause-some : goal.returns-in_err-step-clause-some
returns-in_err-step-clause-some g c =
    on_err c.from_residual-in_err-step.result _
    (refused c.args.others c.args.commands.now c.args.member.now c.args.numbers.now.items c.begin.new.member c.commit_next.new.member c.reserve.new.self.items
    c.reserve.ensures.items (c.in_ok-begin.ensures.before c.if-not-branch.false) c.in_err-step.ensures.tries)

pub returns-in_err-kept-clause-works : goal.returns-in_err-kept-clause-works
returns-in_err-kept-clause-works g c =
    works_then c.args.member.now c.begin.new.member c.commit_next.new.member c.begin.ensures.works c.commit_next.ensures.works

pub returns-in_err-kept-clause-some : goal.returns-in_err-kept-clause-some
returns-in_err-kept-clause-some g c =
    on_err c.from_residual-in_err-kept.result _
    (made c.args.others c.args.commands.now c.args.member.now c.args.numbers.now.items c.begin.new.member c.commit_next.new.member c.in_ok-step.step c.note.new.numbers.items
    (c.note.ensures ∙ ap (λ (l : List ℕ). l ++ numbers_of c.in_ok-step.step.number) c.reserve.ensures.items)
    (c.in_ok-begin.ensures.before c.if-not-branch.false) c.in_ok-step.ensures.steps)

pub returns-clause-works : goal.returns-clause-works
returns-clause-works g c =
    works_then c.args.member.now c.begin.new.member c.commit_next.new.member c.begin.ensures.works c.commit_next.ensures.works

pub returns-clause-steps : goal.returns-clause-steps
returns-clause-steps g c = (
  numbers_of c.in_ok-step.step.number,
  c.note.ensures ∙ ap (λ (l : List ℕ). l ++ numbers_of c.in_ok-step.step.number) c.reserve.ensures.items,
  (
    refl,
    record {
      turn = c.begin.new.member;
      takes = c.in_ok-begin.ensures.before c.if-not-branch.false;
      does = c.in_ok-step.ensures.steps;
    },
  ),
)

pub returns-in_err-reserve-clause-works : goal.returns-in_err-reserve-clause-works
returns-in_err-reserve-clause-works g c = works_same c.args.member.now c.args.member.now refl
