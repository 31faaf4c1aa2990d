use Rattle.std.proofs.Common.{◌∙◌, sym, ap, subst}
use Rattle.std.specs.Prelude.{IfOk}
use Rattle.std.proofs.lemmas.Result.{IfOk-weaker}
use Rattle.su_desk.specs.Desk.{DeskState}
use Rattle.su_desk.specs.Trial.{with_ready}
use Rattle.su_stored_desk.specs.Asked.{IsClear}
use Rattle.su_stored_desk.specs.Joined.{HasEach, IsJoined}
use Rattle.su_stored_desk.specs.Right.{state_of}
use Rattle.su_stored_desk.proofs.Clearness.{known}
use Rattle.su_stored_desk.proofs.Public.{asks_on}
use Rattle.su_stored_desk.proofs.trials.TrialDesk.footprint_of.Goals as goal
use Rattle.su_stored_desk.proofs.trials.TrialDesk.footprint_of.Goals.{in-Ok, in-Err}

pub returns-clause-joined : goal.returns-clause-joined
returns-clause-joined g c clear =
    let s = c.self.inside in
    let m = g.S.BlockSource.may_give in
    let d = c.args.self.now.state.settled in
    let a = c.args.author in
    let f = c.args.format in
    let ops = c.args.batch.now in
    let t = c.try_batch.new.self in
    let k = known m s.desk s.tried.items s.asked.items t.state (ap (λ u. u.state) c.self.view_is) c.self.invariant in
    let right = k.right (subst (IsClear m) (sym c.self.view_is) (c.take_back.ensures.asks.clear clear)) in
    elim c.match-try_batch.branch [
      | in-Ok w ↦
          let each : HasEach d a f ops (state_of s.desk) = k.seen.whole ∙ ap (λ (x : DeskState). with_ready x t.state.ready) c.try_batch.ensures.settled ∙ ap (with_ready d) w.in-Ok.ensures.ready in
          subst (λ r. IfOk r (IsJoined d a f ops)) (sym w.answer-is)
          (IfOk-weaker w.joined-answer.result _ _ (λ footprint joined. joined d a f ops each (sym w.count.ensures)) (w.joined-answer.ensures.joined right))
      | in-Err w ↦ subst (λ r. IfOk r (IsJoined d a f ops)) (sym w.answer-is) tt
    ]

pub returns-clause-asks : goal.returns-clause-asks
returns-clause-asks g c = asks_on g.met.S.BlockSource.follows_on c.args.self.now c.try_batch.new.self c.take_back.new.self c.try_batch.ensures.asks c.take_back.ensures.asks

pub returns-in_err-take_back-clause-asks : goal.returns-in_err-take_back-clause-asks
returns-in_err-take_back-clause-asks g c = asks_on g.met.S.BlockSource.follows_on c.args.self.now c.try_batch.new.self c.take_back.new.self c.try_batch.ensures.asks c.take_back.ensures.asks
