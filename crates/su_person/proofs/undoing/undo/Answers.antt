use Rattle.std.proofs.Common.{ℕ, List, ◌++◌, [], ◌∷◌, ◌∙◌, ap, refl}
use Rattle.su_client_work.proofs.Public.{works_same}
use Rattle.su_person.proofs.Working.{works_then_takes, works_through}
use Rattle.su_person.proofs.StepLemmas.{on_ok}
use Rattle.su_person.proofs.undoing.undo.Goals as goal

pub returns-in_err-reserve-clause-works : goal.returns-in_err-reserve-clause-works
returns-in_err-reserve-clause-works g c = works_same c.args.member.now c.args.member.now refl

pub returns-in_err-commit-clause-works : goal.returns-in_err-commit-clause-works
returns-in_err-commit-clause-works g c =
    works_through c.args.member.now c.move_on.new.member c.begin.new.self c.publish.new.self c.move_on.ensures.works c.begin.ensures.takes c.publish.ensures.works

pub returns-clause-works : goal.returns-clause-works
returns-clause-works g c =
    works_through c.args.member.now c.move_on.new.member c.begin.new.self c.publish.new.self c.move_on.ensures.works c.begin.ensures.takes c.publish.ensures.works

pub returns-clause-undone : goal.returns-clause-undone
returns-clause-undone g c =
    on_ok c.kept.result _ (
      c.in_ok-commit.commit,
      c.push_reserved.ensures.items ∙ ap (λ (l : List ℕ). l ++ c.in_ok-commit.commit ∷ []) c.reserve.ensures.items,
      record { ready = c.move_on.new.member; moves = c.move_on.ensures.moves; published = record { turn = c.begin.new.self; takes_turn = c.in_default.ensures.turn; takes = c.begin.ensures.takes; published = c.in_ok-commit.ensures.published } },
    )

pub returns-in-Err-clause-works : goal.returns-in-Err-clause-works
returns-in-Err-clause-works g c = works_then_takes c.args.member.now c.move_on.new.member c.begin.new.self c.move_on.ensures.works c.begin.ensures.takes
