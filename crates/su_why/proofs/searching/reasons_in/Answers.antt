use Rattle.std.proofs.Common.{◌≡◌, ◌⊎◌, ◌<◌, ◌∙◌, ⊎_elim, inl, inr, Some, sym, ap, subst}
use Rattle.su_bytes.specs.Membership.{Membership}
use Rattle.su_bytes.specs.declared.refusals.Refusal.TheVariants.{MissingBlock, NoMemory}
use Rattle.su_desk.specs.Answer.{Good, live_refusal}
use Rattle.su_desk.specs.Trial.{TrialState}
use Rattle.su_legal.proofs.Public.{good_history}
use Rattle.su_legal.specs.Legal.{history}
use Rattle.su_reasons.proofs.Public.{refused_by}
use Rattle.su_reasons.specs.Reasons.{AreReasons}
use Rattle.su_why.proofs.Quiets.{quiet_clear, stays_quiet}
use Rattle.su_why.proofs.searching.reasons_in.Goals as goal

pub returns-in_err-desk-clause-refused : goal.returns-in_err-desk-clause-refused
returns-in_err-desk-clause-refused g c = λ clear.
    let v = c.args.view.now.holding in
    let good = subst (λ (ro : Membership). Good ro c.in_ok-entries.entries.items) (sym c.requires)
    (subst (λ es. Good v.roster es) (sym c.in_ok-entries.ensures.value) (good_history v.roster v.held (c.head-head.ensures.legal clear))) in
    refused_by (λ e. (e ≡ NoMemory) ⊎ ((e ≡ MissingBlock) × (0 < v.itemless)) ⊎ (live_refusal (history v.held) c.args.number ≡ Some e)) c.from_residual-in_err-desk.result c.in_err-desk.field-0.0 c.from_residual-in_err-desk.ensures.1
    (inl (c.in_err-desk.ensures.refused good))

pub returns-in-Ok-clause-reasons : goal.returns-in-Ok-clause-reasons
returns-in-Ok-clause-reasons g c =
    let v = c.args.view.now.holding in
    let quiet = stays_quiet c.in_ok-desk.desk c.reasons.new.desk c.reasons.ensures.asks c.in_ok-desk.ensures.quiet in
    let found = c.in-Ok.ensures.reasons (quiet_clear c.reasons.new.desk quiet) in
    subst (λ es. AreReasons v.roster es c.args.number c.in-Ok.numbers.items) c.in_ok-entries.ensures.value
    (subst (λ (ro : Membership). AreReasons ro c.in_ok-entries.entries.items c.args.number c.in-Ok.numbers.items) c.requires
    (subst (λ (t : TrialState). AreReasons t.settled.roster t.settled.history c.args.number c.in-Ok.numbers.items) c.in_ok-desk.ensures.state found))

pub returns-clause-refused : goal.returns-clause-refused
returns-clause-refused g c = λ clear.
    let v = c.args.view.now.holding in
    let quiet = stays_quiet c.in_ok-desk.desk c.reasons.new.desk c.reasons.ensures.asks c.in_ok-desk.ensures.quiet in
    let history_is = ap (λ (t : TrialState). t.settled.history) c.in_ok-desk.ensures.state ∙ c.in_ok-entries.ensures.value in
    ⊎_elim (λ load. inl (c.without_loads.ensures.load load))
    (λ refused. ⊎_elim (λ none. inl none)
    (λ same. inr (inr (subst (λ es. live_refusal es c.args.number ≡ Some c.without_loads.result) history_is (refused ∙ ap Some (sym same)))))
    c.without_loads.ensures.told)
    (c.in-Err.ensures.refused (quiet_clear c.reasons.new.desk quiet))
