use Rattle.std.proofs.Common.{◌∙◌, ap, sym, refl, inl, inr, Ok}
use Rattle.std.proofs.lemmas.Result.{err_from_is_err_and}
use Rattle.su_reading.proofs.Public.{joined, ends_ok, ends_err, stops}
use Rattle.su_draft.specs.Draft.{DraftState, with_take}
use Rattle.su_read_draft.proofs.Steps.{same_ok}
use Rattle.su_draft.specs.Rename.{moved}
use Rattle.su_read_draft.proofs.rename.moved.Goals as goal

pub returns-in_err-with_take : goal.returns-in_err-with_take
unfolding moved
returns-in_err-with_take g c =
    let p = err_from_is_err_and c.from_residual.result c.from_residual.ensures.1 in
    record { works_out = stops p.0 (cc (c.in_err-with_take.was, p.2)) p.1 c.with_take.ensures.works_out (λ T is. rw (ap (λ (d : DraftState). with_take T d c.args.rename.from_) (sym c.new.ensures) ∙ is) refl) }

pub returns-in_err-draft : goal.returns-in_err-draft
unfolding moved
returns-in_err-draft g c =
    let p = err_from_is_err_and c.from_residual-in_err-draft.result c.from_residual-in_err-draft.ensures.1 in
    record { works_out = stops p.0 (cc (c.in_err-draft.was, p.2)) p.1 (joined c.in_ok-with_take.field-0 c.in_ok-with_take.was g.met.R.TreeReader.follows_on c.with_take.ensures.works_out c.with_take-2.ensures.works_out) (λ T is. rw (ap (λ (d : DraftState). with_take T d c.args.rename.from_) (sym c.new.ensures) ∙ is.0, is.1) refl) }

pub returns-in_err-draft-2 : goal.returns-in_err-draft-2
unfolding moved
returns-in_err-draft-2 g c =
    let p = err_from_is_err_and c.from_residual-in_err-draft-2.result c.from_residual-in_err-draft-2.ensures.1 in
    record { works_out = stops p.0 (cc (c.in_err-draft-2.was, p.2)) p.1 (joined c.in_ok-draft.draft c.in_ok-draft.was g.met.R.TreeReader.follows_on (joined c.in_ok-with_take.field-0 c.in_ok-with_take.was g.met.R.TreeReader.follows_on c.with_take.ensures.works_out c.with_take-2.ensures.works_out) c.with_name_free.ensures.works_out) (λ T is. rw (ap (λ (d : DraftState). with_take T d c.args.rename.from_) (sym c.new.ensures) ∙ is.0.0, is.0.1, is.1) refl) }

pub returns-in_err-with : goal.returns-in_err-with
unfolding moved
returns-in_err-with g c =
    let p = err_from_is_err_and c.from_residual-in_err-with.result c.from_residual-in_err-with.ensures.1 in
    record { works_out = ends_err c.in_ok-draft-2.draft c.in_err-with.field-0.0 c.in_ok-draft-2.was (cc (p.1, p.2)) (joined c.in_ok-draft.draft c.in_ok-draft.was g.met.R.TreeReader.follows_on (joined c.in_ok-with_take.field-0 c.in_ok-with_take.was g.met.R.TreeReader.follows_on c.with_take.ensures.works_out c.with_take-2.ensures.works_out) c.with_name_free.ensures.works_out) (λ T is. elim c.in_err-with.ensures [ inl none ↦ inl none | inr why ↦ absurd cc ]) }

pub returns : goal.returns
unfolding moved
returns g c = record {
  works_out = ends_ok c.in_ok-draft-2.draft c.operations.result c.in_ok-draft-2.was refl (joined c.in_ok-draft.draft c.in_ok-draft.was g.met.R.TreeReader.follows_on (joined c.in_ok-with_take.field-0 c.in_ok-with_take.was g.met.R.TreeReader.follows_on c.with_take.ensures.works_out c.with_take-2.ensures.works_out) c.with_name_free.ensures.works_out)
      (λ T is. rw (ap (λ (d : DraftState). with_take T d c.args.rename.from_) (sym c.new.ensures) ∙ is.0.0, is.0.1, is.1) (ap (λ (d : DraftState). Ok d.operations) (same_ok c.in_ok-with.ensures) ∙ ap Ok (sym c.operations.ensures)));
}
