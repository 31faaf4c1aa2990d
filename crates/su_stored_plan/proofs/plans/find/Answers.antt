use Rattle.std.proofs.Common.{◌∙◌, inl, inr, ⊎_elim, sym, ap, append-nil}
use Rattle.su_desk.specs.Trial.{TrialState, tree_with_ready}
use Rattle.su_desk.specs.Applied.{tree_after}
use Rattle.su_draft.specs.Walk.{found}
use Rattle.su_stored_desk.proofs.Public.{asks_on}
use Rattle.su_stored_plan.proofs.PlanLemmas.{err_weaker}
use Rattle.su_stored_plan.proofs.plans.find.Goals as goal

pub returns-clause-refused : goal.returns-clause-refused
returns-clause-refused g c clear =
    let asked = c.find.ensures.works_out in
    let shows = c.note_asked.ensures.shows (asked.comes.asks.clear clear) in
    err_weaker c.find.result (λ e. ⊎_elim (λ fails. inl fails.0) (⊎_elim (λ none. inl (inr (inr (inr (inl none))))) (λ is. inr (ap (λ h. found (tree_after c.args.desk.now.state.settled.roster h) c.args.path.now) (sym (append-nil c.args.desk.now.state.settled.history)) ∙ ap (λ (t : TrialState). found (tree_with_ready t) c.args.path.now) (sym c.in_ok-take_back.ensures.ok) ∙ is))))
    (asked.refused _ shows)

pub returns-clause-asks : goal.returns-clause-asks
returns-clause-asks g c =
    asks_on g.met.S.BlockSource.follows_on c.args.desk.now c.note_asked.new.self c.find.new.reader
    (asks_on g.met.S.BlockSource.follows_on c.args.desk.now c.take_back.new.self c.note_asked.new.self c.take_back.ensures.asks c.note_asked.ensures.asks)
    c.find.ensures.works_out.comes.asks
