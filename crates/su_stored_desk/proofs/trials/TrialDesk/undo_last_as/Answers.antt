use Rattle.std.proofs.Common.{◌≡◌, ◌∙◌, inl, sym, ap, subst}
use Rattle.su_desk.specs.Desk.{DeskState}
use Rattle.su_desk.specs.History.{undo_by, last_live}
use Rattle.su_desk.specs.Trial.{TrialState}
use Rattle.su_stored_desk.specs.Asked.{Answers, IsClear, TrialOn}
use Rattle.su_stored_desk.specs.Right.{state_of}
use Rattle.su_stored_desk.proofs.Clearness.{known}
use Rattle.su_stored_desk.proofs.Public.{asks_on}
use Rattle.su_stored_desk.proofs.Replies.{passed_on}
use Rattle.su_stored_desk.proofs.StandingReady.{alone}
use Rattle.su_stored_desk.proofs.trials.TrialDesk.undo_last_as.Goals as goal

pub returns-in_err-take_back-clause-answered : goal.returns-in_err-take_back-clause-answered
returns-in_err-take_back-clause-answered g c clear =
    let d = c.args.self.now.state.settled in
    let x = c.in_err-take_back.field-0.0 in
    passed_on d c.take_back.new.self.state.settled (undo_by c.args.author c.args.format (last_live d.history)) c.from_residual.result x c.from_residual.ensures.1
    (inl (c.in_err-take_back.ensures.refused clear)) c.in_err-take_back.ensures.err

pub returns-clause-answered : goal.returns-clause-answered
returns-clause-answered g c clear =
    let m = g.S.BlockSource.may_give in
    let d = c.args.self.now.state.settled in
    let t = c.take_back.new.self in
    let s = c.self.inside in
    let was : IsClear m t = c.apply_as.ensures.asks.clear clear in
    let k = known m s.desk s.tried.items s.asked.items t.state (ap (λ (u : TrialOn g.row.S.Denot). u.state) c.self.view_is) c.self.invariant in
    let right = k.right (subst (IsClear m) (sym c.self.view_is) was) in
    let settled : t.state.settled ≡ d = ap (λ (s : TrialState). s.settled) c.in_ok-take_back.ensures.ok in
    let here : state_of s.desk ≡ d = alone (state_of s.desk) s.tried.items t.state k.seen (ap (λ (s : TrialState). s.ready) c.in_ok-take_back.ensures.ok) ∙ settled in
    let last : c.last-number.result ≡ last_live d.history = c.last-number.ensures right ∙ ap (λ (x : DeskState). last_live x.history) here in
    subst (λ n. Answers d (undo_by c.args.author c.args.format n) c.apply_as.result c.apply_as.new.self.state.settled) last
    (subst (λ (x : DeskState). Answers x (undo_by c.args.author c.args.format c.last-number.result) c.apply_as.result c.apply_as.new.self.state.settled) settled (c.apply_as.ensures.answered clear))

pub returns-clause-asks : goal.returns-clause-asks
returns-clause-asks g c = asks_on g.met.S.BlockSource.follows_on c.args.self.now c.take_back.new.self c.apply_as.new.self c.take_back.ensures.asks c.apply_as.ensures.asks
