use Rattle.std.proofs.Common.{subst}
use Rattle.su_desk.specs.Desk.{Answers}
use Rattle.su_desk.specs.History.{last_live, undo_by}
use Rattle.su_desk.specs.Trial.{TrialState}
use Rattle.su_desk_script.proofs.Quiets.{quiet_clear, stays_quiet}
use Rattle.su_desk_script.proofs.loaded.LoadedDesk.undo_last_as.Goals as goal

pub invariant_of-self : goal.invariant_of-self
invariant_of-self c = stays_quiet c.self.inside.desk c.undo_last_as-answer.new.self c.undo_last_as-answer.ensures.asks c.self.invariant

pub returns : goal.returns
returns c =
    let quiet = stays_quiet c.self.inside.desk c.undo_last_as-answer.new.self c.undo_last_as-answer.ensures.asks c.self.invariant in
    let d = c.self.inside.desk.state.settled in
    subst (λ (t : TrialState). Answers t.settled (undo_by c.args.author c.args.format (last_live t.settled.history)) c.answer_without_loads.result c.undo_last_as-answer.new.self.state.settled) c.self.view_is
    (c.answer_without_loads.ensures d c.undo_last_as-answer.new.self.state.settled (undo_by c.args.author c.args.format (last_live d.history))
    (c.undo_last_as-answer.ensures.answered (quiet_clear c.undo_last_as-answer.new.self quiet)))
