use Rattle.std.proofs.Common.{◌∙◌, ap, sym, refl, inl, inr, Ok}
use Rattle.std.proofs.lemmas.Result.{err_from_is_err_and}
use Rattle.su_reading.proofs.Public.{joined, ends_ok, stops, err_at_once}
use Rattle.su_draft.specs.Draft.{DraftState, with_take}
use Rattle.su_read_draft.proofs.Steps.{same_ok}
use Rattle.su_draft.specs.Walk.{at}
use Rattle.su_draft.specs.Write.{write_draft}
use Rattle.su_read_draft.proofs.write.write.Goals as goal

pub returns-in_err-names : goal.returns-in_err-names
unfolding write_draft
returns-in_err-names g c =
    let p = err_from_is_err_and c.from_residual.result c.from_residual.ensures.1 in
    record { works_out = err_at_once c.in_err-names.field-0.0 (cc (p.1, p.2)) (g.met.R.TreeReader.follows_itself c.args.reader.now) (λ T. elim c.in_err-names.ensures [ inl none ↦ inl none | inr why ↦ inr (rw (why) refl) ]) }

pub returns-in_err-file : goal.returns-in_err-file
unfolding write_draft
returns-in_err-file g c =
    let p = err_from_is_err_and c.from_residual-in_err-file.result c.from_residual-in_err-file.ensures.1 in
    record { works_out = stops p.0 (cc (c.in_err-file.was, p.2)) p.1 c.at.ensures.works_out (λ T is. rw (c.in_ok-names.ensures, ap (at T) (sym c.as_slice.ensures.value) ∙ is) refl) }

pub returns-in_err-draft : goal.returns-in_err-draft
unfolding write_draft
returns-in_err-draft g c =
    let p = err_from_is_err_and c.from_residual-in_err-draft.result c.from_residual-in_err-draft.ensures.1 in
    record { works_out = stops p.0 (cc (c.in_err-draft.was, p.2)) p.1 (joined c.in_ok-file.file c.in_ok-file.was g.met.R.TreeReader.follows_on c.at.ensures.works_out c.with_take.ensures.works_out) (λ T is. rw (c.in_ok-names.ensures, ap (at T) (sym c.as_slice.ensures.value) ∙ is.0, ap (λ (d : DraftState). with_take T d c.in_ok-file.file) (sym c.new.ensures) ∙ is.1) refl) }

pub returns : goal.returns
unfolding write_draft
returns g c = record {
  works_out = ends_ok c.in_ok-draft.draft c.operations.result c.in_ok-draft.was refl (joined c.in_ok-file.file c.in_ok-file.was g.met.R.TreeReader.follows_on c.at.ensures.works_out c.with_take.ensures.works_out)
      (λ T is. rw (c.in_ok-names.ensures, ap (at T) (sym c.as_slice.ensures.value) ∙ is.0, ap (λ (d : DraftState). with_take T d c.in_ok-file.file) (sym c.new.ensures) ∙ is.1, sym c.in_ok-bytes.ensures.items)
      (ap (λ (d : DraftState). Ok d.operations) (same_ok c.in_ok-with.ensures) ∙ ap Ok (sym c.operations.ensures)));
}
