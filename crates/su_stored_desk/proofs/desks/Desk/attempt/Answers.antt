use Rattle.std.proofs.Common.{◌≡◌, ◌∙◌, ⊎_elim, inl, inr, None, sym, ap, subst}
use Rattle.su_desk.specs.Answer.{refusal_by_change, undo_refusal}
use Rattle.su_desk.specs.Desk.{DeskState}
use Rattle.su_desk.specs.Trial.{tree_of}
use Rattle.su_part_forest.specs.Loading.{HashedFor}
use Rattle.su_desk.specs.History.{entry_by}
use Rattle.su_stored_desk.specs.Right.{state_of}
use Rattle.su_stored_desk.specs.Tried.{IsKept, TakesBack}
use Rattle.su_stored_desk.specs.declared.prepared.Means.TheVariants.{Held}
use Rattle.su_stored_desk.specs.declared.prepared.Tried.{Tried}
use Rattle.su_desk.proofs.FormatLemmas.{by_change}
use Rattle.su_stored_desk.proofs.Rightness.{one_more}
use Rattle.su_stored_desk.proofs.TakingBack.{held_puts_back}
use Rattle.su_stored_desk.proofs.TrialLemmas.{refused_by}
use Rattle.su_stored_desk.proofs.desks.Desk.attempt.Goals as goal

pub returns-in_ok-operation-in-Undo-clause-tried : goal.returns-in_ok-operation-in-Undo-clause-tried
returns-in_ok-operation-in-Undo-clause-tried g c sure =
    let s = c.args.self.now in
    let d = state_of s in
    let n = c.in-Undo.number in
    let held = c.in_ok-held-in-Undo.ensures in
    let out = c.in_ok-operation-in-Undo.ensures in
    let at : state_of c.hold.new.self ≡ d = ap (λ y. state_of y) held.same in
    let accepted : undo_refusal d.roster d.history c.args.author n ≡ None = ap (λ (y : DeskState). undo_refusal y.roster y.history c.args.author n) (sym at) ∙ out.accepted (held.sure sure) in
    let t : Tried = record { versions = c.in_ok-versions.versions; means = Held (record { operation = c.in_ok-operation-in-Undo.operation; held = c.in_ok-held-in-Undo.held }) } in
    subst (λ ch. TakesBack d (entry_by c.args.author c.args.format ch) t) (sym c.in-Undo.is)
    (record {
      versions = c.in_ok-versions.ensures.items ∙ c.as_slice.ensures.value ∙ sure.right.counters;
      change = record {
        kept = subst (λ (y : DeskState). IsKept y.roster y.history n c.in_ok-operation-in-Undo.operation) at (out.kept (held.sure sure));
        back = held_puts_back d.roster d.history c.args.author c.args.format n c.in_ok-held-in-Undo.held sure.right.keeps.good accepted (held.covers sure) (held.kept sure);
      };
    })

pub returns-in_err-operation-in-Undo-clause-refused : goal.returns-in_err-operation-in-Undo-clause-refused
returns-in_err-operation-in-Undo-clause-refused g c sure =
    let d = state_of c.args.self.now in
    let e = entry_by c.args.author c.args.format c.args.change in
    let x = c.in_err-operation-in-Undo.field-0.0 in
    let held = c.in_ok-held-in-Undo.ensures in
    let at : state_of c.hold.new.self ≡ d = ap (λ y. state_of y) held.same in
    refused_by _ c.from_residual-in_err-operation-in-Undo.result x c.from_residual-in_err-operation-in-Undo.ensures.1
    (⊎_elim (λ fails. inl (fails.0, λ it. let (item, hashed, last) = fails.1 it in (item, subst (λ (y : DeskState). HashedFor (tree_of y) item) at hashed, last)))
    (λ refused. inr (by_change d.roster d.history e (sym (c.format_refusal.ensures c.args.change (sym c.oldest_format.ensures)) ∙ c.in_default.is)
    ∙ ap (refusal_by_change d.roster d.history e) c.in-Undo.is
    ∙ ap (λ (y : DeskState). undo_refusal y.roster y.history c.args.author c.in-Undo.number) (sym at) ∙ refused))
    (c.in_err-operation-in-Undo.ensures.refused (held.sure sure)))

pub returns-in_ok-operation-in-Undo-clause-source : goal.returns-in_ok-operation-in-Undo-clause-source
returns-in_ok-operation-in-Undo-clause-source g c = one_more _ _ g.met.S.BlockSource.follows_on _ _ _ c.in_ok-held-in-Undo.ensures.source c.in_ok-operation-in-Undo.ensures.source
