use Rattle.std.proofs.Common.{subst}
use Rattle.su_desk.specs.Desk.{Answers}
use Rattle.su_desk.specs.History.{entry_by}
use Rattle.su_desk.specs.Trial.{TrialState}
use Rattle.su_desk_script.proofs.Quiets.{quiet_clear, stays_quiet}
use Rattle.su_desk_script.proofs.loaded.LoadedDesk.apply_as.Goals as goal

pub invariant_of-self : goal.invariant_of-self
invariant_of-self c = stays_quiet c.self.inside.desk c.apply_as-answer.new.self c.apply_as-answer.ensures.asks c.self.invariant

pub returns : goal.returns
returns c =
    let quiet = stays_quiet c.self.inside.desk c.apply_as-answer.new.self c.apply_as-answer.ensures.asks c.self.invariant in
    let entry = entry_by c.args.author c.args.format c.args.change in
    subst (λ (t : TrialState). Answers t.settled entry c.answer_without_loads.result c.apply_as-answer.new.self.state.settled) c.self.view_is
    (c.answer_without_loads.ensures c.self.inside.desk.state.settled c.apply_as-answer.new.self.state.settled entry (c.apply_as-answer.ensures.answered (quiet_clear c.apply_as-answer.new.self quiet)))
