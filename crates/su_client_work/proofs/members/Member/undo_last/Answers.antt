use Rattle.std.proofs.Common.{ℕ, Result, Ok, Err, OnOk, inl, inr, ap, subst, sym, ◌∙◌, ◌≡◌}
use Rattle.std.proofs.lemmas.Result.{err_from_is_err_and}
use Rattle.su_client.specs.Link.{Follows}
use Rattle.su_client.specs.Following.{follows_on}
use Rattle.su_desk.specs.History.{last_live}
use Rattle.su_legal.specs.Legal.{history}
use Rattle.su_op.specs.declared.operations.Change.TheVariants.{Undo}
use Rattle.su_view.specs.Holding.{HoldingState}
use Rattle.su_client_work.specs.Publishing.{IsPublished, SignsAtMost, always, last_undo}
use Rattle.su_client_work.proofs.Taking.{only_asks, only_stays, only_then}
use Rattle.su_client_work.proofs.Turns.{comes_on, gives_turn_up, gives_up_after}
use Rattle.su_client_work.proofs.Undoing.{over_undo, publishes_undo, publishes_last, undone_last}
use Rattle.su_client_work.proofs.Working.{commits_none, commits_then, works_takes, works_then}
use Rattle.su_client_work.proofs.members.Member.undo_last.Goals as goal

-- ---- the turn wasn't taken

pub returns-in_err-begin-clause-works : goal.returns-in_err-begin-clause-works
returns-in_err-begin-clause-works g c = works_takes c.args.self.now c.begin.new.self c.begin.ensures.takes

pub returns-in_err-begin-clause-signs : goal.returns-in_err-begin-clause-signs
returns-in_err-begin-clause-signs g c = λ clear. commits_none last_undo c.args.self.now _ c.begin.new.self c.begin.ensures.takes

pub returns-in_err-begin-clause-undoes : goal.returns-in_err-begin-clause-undoes
returns-in_err-begin-clause-undoes g c = (0, commits_none (always (Undo 0)) c.args.self.now _ c.begin.new.self c.begin.ensures.takes)

pub returns-in_err-begin-clause-over : goal.returns-in_err-begin-clause-over
returns-in_err-begin-clause-over g c =
    let p = err_from_is_err_and c.from_residual.result c.from_residual.ensures.1 in
    rw (p.1, p.2) (0, inl c.in_err-begin.ensures.refused)

-- ---- it was published

pub returns-in-Ok-clause-over : goal.returns-in-Ok-clause-over
returns-in-Ok-clause-over g c =
    over_undo _ c.publish.result c.in-Ok.last c.args.self.now c.begin.new.self c.last_live.new.self c.publish.new.self c.in_ok-begin.ensures.turn
    c.last_live.ensures.asks c.last_live.ensures.follows c.publish.ensures.ends

pub returns-in-Ok-clause-works : goal.returns-in-Ok-clause-works
returns-in-Ok-clause-works g c =
    works_then c.args.self.now c.last_live.new.self c.publish.new.self
    (works_takes c.args.self.now c.last_live.new.self
    (only_then c.args.self.now c.begin.new.self c.last_live.new.self c.begin.ensures.takes (only_asks c.begin.new.self c.last_live.new.self c.last_live.ensures.asks)))
    c.publish.ensures.works

pub returns-in-Ok-clause-link : goal.returns-in-Ok-clause-link
returns-in-Ok-clause-link g c =
    comes_on _ c.args.self.now.link c.begin.new.self.link c.publish.new.self.link c.begin.ensures.link
    (follows_on c.begin.new.self.link c.last_live.new.self.link c.publish.new.self.link c.last_live.ensures.follows c.publish.ensures.follows)

pub returns-in-Ok-clause-undoes : goal.returns-in-Ok-clause-undoes
returns-in-Ok-clause-undoes g c = (
  c.in-Ok.last,
  commits_then (always (Undo c.in-Ok.last)) c.args.self.now c.last_live.new.self c.publish.result c.publish.new.self
      (only_then c.args.self.now c.begin.new.self c.last_live.new.self c.begin.ensures.takes (only_asks c.begin.new.self c.last_live.new.self c.last_live.ensures.asks))
      c.publish.ensures.works.clear c.publish.ensures.signs c.publish.ensures.err,
)

pub returns-in-Ok-clause-signs : goal.returns-in-Ok-clause-signs
returns-in-Ok-clause-signs g c = λ clear.
    commits_then last_undo c.args.self.now c.last_live.new.self c.publish.result c.publish.new.self
    (only_then c.args.self.now c.begin.new.self c.last_live.new.self c.begin.ensures.takes (only_asks c.begin.new.self c.last_live.new.self c.last_live.ensures.asks))
    c.publish.ensures.works.clear
    (subst (λ (n : ℕ). SignsAtMost c.last_live.new.self.holding (Undo n) c.last_live.new.self c.publish.new.self)
    (undone_last c.begin.new.self c.last_live.new.self c.in-Ok.last c.last_live.ensures.asks (c.in-Ok.ensures.value (c.publish.ensures.works.clear clear)))
    c.publish.ensures.signs)
    c.publish.ensures.err

pub returns-in-Ok-clause-undone : goal.returns-in-Ok-clause-undone
returns-in-Ok-clause-undone g c =
    publishes_undo _ c.publish.result c.args.self.now c.begin.new.self c.last_live.new.self c.publish.new.self c.in-Ok.last c.in_ok-begin.ensures.turn c.begin.ensures.takes
    c.last_live.ensures.asks c.last_live.ensures.follows c.publish.ensures.published

pub returns-in-Ok-clause-published : goal.returns-in-Ok-clause-published
returns-in-Ok-clause-published g c = λ clear.
    publishes_last _ c.publish.result c.args.self.now c.begin.new.self c.last_live.new.self c.publish.new.self c.in-Ok.last c.in_ok-begin.ensures.turn c.begin.ensures.takes
    c.last_live.ensures.asks c.last_live.ensures.follows (c.in-Ok.ensures.value (c.publish.ensures.works.clear clear)) c.publish.ensures.published

-- ---- it wasn't found which operation is the last

pub returns-in-Err-clause-works : goal.returns-in-Err-clause-works
returns-in-Err-clause-works g c =
    works_takes c.args.self.now c.give_up.new.self
    (only_then c.args.self.now c.begin.new.self c.give_up.new.self c.begin.ensures.takes
    (only_then c.begin.new.self c.last_live.new.self c.give_up.new.self (only_asks c.begin.new.self c.last_live.new.self c.last_live.ensures.asks)
    (only_stays c.last_live.new.self c.give_up.new.self c.give_up.ensures.stays)))

pub returns-in-Err-clause-link : goal.returns-in-Err-clause-link
returns-in-Err-clause-link g c =
    comes_on _ c.args.self.now.link c.begin.new.self.link c.give_up.new.self.link c.begin.ensures.link
    (follows_on c.begin.new.self.link c.last_live.new.self.link c.give_up.new.self.link c.last_live.ensures.follows c.give_up.ensures.follows)

pub returns-in-Err-clause-signs : goal.returns-in-Err-clause-signs
returns-in-Err-clause-signs g c = λ clear.
    commits_none last_undo c.args.self.now _ c.give_up.new.self
    (only_then c.args.self.now c.begin.new.self c.give_up.new.self c.begin.ensures.takes
    (only_then c.begin.new.self c.last_live.new.self c.give_up.new.self (only_asks c.begin.new.self c.last_live.new.self c.last_live.ensures.asks)
    (only_stays c.last_live.new.self c.give_up.new.self c.give_up.ensures.stays)))

pub returns-in-Err-clause-undoes : goal.returns-in-Err-clause-undoes
returns-in-Err-clause-undoes g c = (
  0,
  commits_none (always (Undo 0)) c.args.self.now _ c.give_up.new.self
      (only_then c.args.self.now c.begin.new.self c.give_up.new.self c.begin.ensures.takes
      (only_then c.begin.new.self c.last_live.new.self c.give_up.new.self (only_asks c.begin.new.self c.last_live.new.self c.last_live.ensures.asks)
      (only_stays c.last_live.new.self c.give_up.new.self c.give_up.ensures.stays))),
)

pub returns-in-Err-clause-over : goal.returns-in-Err-clause-over
returns-in-Err-clause-over g c = (
  0,
  inl (inr (gives_turn_up _ c.args.self.now.link c.begin.new.self.holding c.begin.new.self.link c.give_up.new.self.link c.in_ok-begin.ensures.turn
      (gives_up_after c.begin.new.self.link c.last_live.new.self.link c.give_up.new.self.link c.last_live.ensures.follows c.give_up.ensures.gives_up))),
)
