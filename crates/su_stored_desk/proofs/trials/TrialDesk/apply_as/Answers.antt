use Rattle.std.proofs.Common.{◌∙◌, ◌+◌, length, Ok, sym, ap, subst}
use Rattle.su_desk.specs.Desk.{DeskState}
use Rattle.su_desk.specs.History.{entry_by}
use Rattle.su_desk.specs.Trial.{TrialState, IsReady, Tells, with_ready}
use Rattle.su_stored_desk.specs.Asked.{IsClear, TrialOn}
use Rattle.su_stored_desk.proofs.Public.{asks_nothing, asks_on}
use Rattle.su_stored_desk.proofs.Replies.{passed_on}
use Rattle.su_stored_desk.proofs.trials.TrialDesk.apply_as.Goals as goal

pub returns-in_err-prepared-clause-answered : goal.returns-in_err-prepared-clause-answered
returns-in_err-prepared-clause-answered g c clear =
    let x = c.in_err-prepared.field-0.0 in
    passed_on c.args.self.now.state.settled c.prepare_as.new.self.state.settled (entry_by c.args.author c.args.format c.args.change) c.from_residual.result x c.from_residual.ensures.1
    (c.in_err-prepared.ensures.refused clear) c.in_err-prepared.ensures.err

pub returns-clause-answered : goal.returns-clause-answered
returns-clause-answered g c clear =
    let d = c.args.self.now.state.settled in
    let e = entry_by c.args.author c.args.format c.args.change in
    let m = g.S.BlockSource.may_give in
    let t = c.prepare_as.new.self in
    let was : IsClear m t = subst (IsClear m) c.settle.ensures.settled clear in
    let told = c.in_ok-prepared.ensures.told was in
    let ready : IsReady t.state c.in_ok-prepared.prepared = (e, ap (λ (s : TrialState). s.ready) c.in_ok-prepared.ensures.ready, subst (λ (s : DeskState). Tells s e c.in_ok-prepared.prepared) (sym (ap (λ (s : TrialState). s.settled) c.in_ok-prepared.ensures.ready)) told) in (
      c.in_ok-prepared.ensures.accepted was ∙ ap Ok (told.number ∙ sym (c.settle.ensures.number ready ∙ ap (λ (s : TrialState). length s.settled.history + 1) c.in_ok-prepared.ensures.ready)),
      ap (λ (u : TrialOn g.row.S.Denot). u.state.settled) c.settle.ensures.settled ∙ ap (λ (s : TrialState). with_ready s.settled s.ready) c.in_ok-prepared.ensures.ready,
    )

pub returns-clause-asks : goal.returns-clause-asks
returns-clause-asks g c =
    let settled = c.settle.ensures.settled in
    asks_on g.met.S.BlockSource.follows_on c.args.self.now c.prepare_as.new.self c.settle.new.self c.prepare_as.ensures.asks
    (asks_nothing g.met.S.BlockSource.follows_itself c.prepare_as.new.self c.settle.new.self
    (ap (λ (u : TrialOn g.row.S.Denot). u.state.settled.roster) settled)
    (ap (λ (u : TrialOn g.row.S.Denot). u.source) settled)
    (ap (λ (u : TrialOn g.row.S.Denot). u.asked) settled))
