use Rattle.std.proofs.Common.{◌∙◌, ap, sym, refl, inl, inr, Ok}
use Rattle.std.proofs.lemmas.Result.{err_from_is_err_and}
use Rattle.su_reading.proofs.Public.{joined, ends_ok, ends_err, stops, err_at_once}
use Rattle.su_draft.specs.Draft.{DraftState, with_take}
use Rattle.su_read_draft.proofs.Steps.{same_ok}
use Rattle.su_draft.specs.Make.{make_draft}
use Rattle.su_read_draft.proofs.make.make.Goals as goal

pub returns-in_err-path : goal.returns-in_err-path
unfolding make_draft
returns-in_err-path g c =
    let p = err_from_is_err_and c.from_residual.result c.from_residual.ensures.1 in
    record { works_out = err_at_once c.in_err-path.field-0.0 (cc (p.1, p.2)) (g.met.R.TreeReader.follows_itself c.args.reader.now) (λ T. elim c.in_err-path.ensures [ inl none ↦ inl none | inr why ↦ inr (rw (why) refl) ]) }

pub returns-in_err-directory : goal.returns-in_err-directory
unfolding make_draft
returns-in_err-directory g c =
    let p = err_from_is_err_and c.from_residual-in_err-directory.result c.from_residual-in_err-directory.ensures.1 in
    record { works_out = stops p.0 (cc (c.in_err-directory.was, p.2)) p.1 c.directory_of.ensures.works_out (λ T is. rw (c.in_ok-path.ensures, is) refl) }

pub returns-in_err-draft : goal.returns-in_err-draft
unfolding make_draft
returns-in_err-draft g c =
    let p = err_from_is_err_and c.from_residual-in_err-draft.result c.from_residual-in_err-draft.ensures.1 in
    record { works_out = stops p.0 (cc (c.in_err-draft.was, p.2)) p.1 (joined c.in_ok-directory.directory c.in_ok-directory.was g.met.R.TreeReader.follows_on c.directory_of.ensures.works_out c.with_take.ensures.works_out) (λ T is. rw (c.in_ok-path.ensures, is.0, ap (λ (d : DraftState). with_take T d c.in_ok-directory.directory) (sym c.new-2.ensures) ∙ is.1) refl) }

pub returns-in_err-body : goal.returns-in_err-body
unfolding make_draft
returns-in_err-body g c =
    let p = err_from_is_err_and c.from_residual-in_err-body.result c.from_residual-in_err-body.ensures.1 in
    record { works_out = stops p.0 (cc (c.in_err-body.was, p.2)) p.1 (joined c.in_ok-draft.draft c.in_ok-draft.was g.met.R.TreeReader.follows_on (joined c.in_ok-directory.directory c.in_ok-directory.was g.met.R.TreeReader.follows_on c.directory_of.ensures.works_out c.with_take.ensures.works_out) c.next_body.ensures.works_out) (λ T is. rw (c.in_ok-path.ensures, is.0.0, ap (λ (d : DraftState). with_take T d c.in_ok-directory.directory) (sym c.new-2.ensures) ∙ is.0.1, is.1) refl) }

pub returns-in_err-file : goal.returns-in_err-file
unfolding make_draft
returns-in_err-file g c =
    let p = err_from_is_err_and c.from_residual-in_err-file.result c.from_residual-in_err-file.ensures.1 in
    record { works_out = stops p.0 (cc (c.in_err-file.was, p.2)) p.1 (joined c.in_ok-body.body c.in_ok-body.was g.met.R.TreeReader.follows_on (joined c.in_ok-draft.draft c.in_ok-draft.was g.met.R.TreeReader.follows_on (joined c.in_ok-directory.directory c.in_ok-directory.was g.met.R.TreeReader.follows_on c.directory_of.ensures.works_out c.with_take.ensures.works_out) c.next_body.ensures.works_out) c.new_file.ensures.works_out) (λ T is. rw (c.in_ok-path.ensures, is.0.0.0, ap (λ (d : DraftState). with_take T d c.in_ok-directory.directory) (sym c.new-2.ensures) ∙ is.0.0.1, is.0.1, is.1) refl) }

pub returns-in_err-with : goal.returns-in_err-with
unfolding make_draft
returns-in_err-with g c =
    let p = err_from_is_err_and c.from_residual-in_err-with.result c.from_residual-in_err-with.ensures.1 in
    record { works_out = ends_err c.in_ok-file.file c.in_err-with.field-0.0 c.in_ok-file.was (cc (p.1, p.2)) (joined c.in_ok-body.body c.in_ok-body.was g.met.R.TreeReader.follows_on (joined c.in_ok-draft.draft c.in_ok-draft.was g.met.R.TreeReader.follows_on (joined c.in_ok-directory.directory c.in_ok-directory.was g.met.R.TreeReader.follows_on c.directory_of.ensures.works_out c.with_take.ensures.works_out) c.next_body.ensures.works_out) c.new_file.ensures.works_out) (λ T is. elim c.in_err-with.ensures [ inl none ↦ inl none | inr why ↦ absurd cc ]) }

pub returns : goal.returns
unfolding make_draft
returns g c = record {
  works_out = ends_ok c.in_ok-file.file c.operations.result c.in_ok-file.was refl (joined c.in_ok-body.body c.in_ok-body.was g.met.R.TreeReader.follows_on (joined c.in_ok-draft.draft c.in_ok-draft.was g.met.R.TreeReader.follows_on (joined c.in_ok-directory.directory c.in_ok-directory.was g.met.R.TreeReader.follows_on c.directory_of.ensures.works_out c.with_take.ensures.works_out) c.next_body.ensures.works_out) c.new_file.ensures.works_out)
      (λ T is. rw (c.in_ok-path.ensures, is.0.0.0, ap (λ (d : DraftState). with_take T d c.in_ok-directory.directory) (sym c.new-2.ensures) ∙ is.0.0.1, is.0.1, is.1) (ap (λ (d : DraftState). Ok d.operations) (same_ok c.in_ok-with.ensures) ∙ ap Ok (sym c.operations.ensures)));
}
