use Rattle.std.proofs.Common.{◌∙◌, inl, inr, ⊎_elim, sym, ap, refl}
use Rattle.su_bytes.specs.Membership.{has_user}
use Rattle.su_desk.specs.Trial.{tree_with_ready}
use Rattle.su_draft.specs.Command.{draft}
use Rattle.su_stored_desk.proofs.Public.{asks_on}
use Rattle.su_stored_plan.proofs.PlanLemmas.{err_weaker}
use Rattle.su_stored_plan.proofs.plans.draft_ready.Goals as goal

pub returns-clause-drafted : goal.returns-clause-drafted
returns-clause-drafted g c clear =
    let asked = c.draft_of_member.ensures.works_out c.args.desk.now.state.settled.roster (ap (λ ro. has_user ro c.args.user) (sym c.roster.ensures) ∙ sym c.if-not-has_user.ensures) in
    asked.answer (tree_with_ready c.args.desk.now.state) (c.note_asked.ensures.shows (asked.comes.asks.clear clear))

pub returns-clause-refused : goal.returns-clause-refused
returns-clause-refused g c clear =
    let asked = c.draft_of_member.ensures.works_out c.args.desk.now.state.settled.roster (ap (λ ro. has_user ro c.args.user) (sym c.roster.ensures) ∙ sym c.if-not-has_user.ensures) in
    err_weaker c.draft_of_member.result (λ e. ⊎_elim (λ fails. inl fails.0) (⊎_elim (λ none. inl (inr (inr (inr (inl none))))) (λ is. inr is)))
    (asked.refused (tree_with_ready c.args.desk.now.state) (c.note_asked.ensures.shows (asked.comes.asks.clear clear)))

pub returns-clause-state : goal.returns-clause-state
returns-clause-state g c =
    let asked = c.draft_of_member.ensures.works_out c.args.desk.now.state.settled.roster (ap (λ ro. has_user ro c.args.user) (sym c.roster.ensures) ∙ sym c.if-not-has_user.ensures) in
    asked.comes.state ∙ ap (λ t. t.state) c.note_asked.ensures.same

pub returns-clause-asks : goal.returns-clause-asks
returns-clause-asks g c =
    let asked = c.draft_of_member.ensures.works_out c.args.desk.now.state.settled.roster (ap (λ ro. has_user ro c.args.user) (sym c.roster.ensures) ∙ sym c.if-not-has_user.ensures) in
    asks_on g.met.S.BlockSource.follows_on c.args.desk.now c.note_asked.new.self c.draft_of_member.new.reader c.note_asked.ensures.asks asked.comes.asks

pub returns-then-not-has_user-clause-refused : goal.returns-then-not-has_user-clause-refused
unfolding draft
returns-then-not-has_user-clause-refused g c clear = inr (rw (ap (λ ro. has_user ro c.args.user) (sym c.roster.ensures) ∙ sym c.if-not-has_user.ensures) refl)
