use Rattle.std.proofs.Common.{◌∙◌, ap, sym, refl}
use Rattle.std.proofs.lemmas.Result.{err_from_is_err_and}
use Rattle.su_reading.proofs.Public.{joined, ends_ok, stops}
use Rattle.su_draft.specs.Walk.{at, directory_of}
use Rattle.su_read_draft.proofs.walks.directory_of.Goals as goal

pub returns-in_err-directory : goal.returns-in_err-directory
unfolding directory_of
returns-in_err-directory g c =
    let p = err_from_is_err_and c.from_residual.result c.from_residual.ensures.1 in
    record { works_out = stops p.0 (cc (c.in_err-directory.was, p.2)) p.1 c.at.ensures.works_out (λ T is. rw (ap (at T) (sym c.as_slice.ensures.value) ∙ is) refl) }

pub returns-in_err-directory_place : goal.returns-in_err-directory_place
unfolding directory_of
returns-in_err-directory_place g c =
    let p = err_from_is_err_and c.from_residual-in_err-directory_place.result c.from_residual-in_err-directory_place.ensures.1 in
    record { works_out = stops p.0 (cc (c.in_err-directory_place.was, p.2)) p.1 (joined c.in_ok-directory.directory c.in_ok-directory.was g.met.R.TreeReader.follows_on c.at.ensures.works_out c.directory_place.ensures.works_out) (λ T is. rw (ap (at T) (sym c.as_slice.ensures.value) ∙ is.0, is.1) refl) }

pub returns : goal.returns
unfolding directory_of
returns g c = record {
  works_out = ends_ok c.in_ok-directory_place.field-0 c.in_ok-directory.directory c.in_ok-directory_place.was refl (joined c.in_ok-directory.directory c.in_ok-directory.was g.met.R.TreeReader.follows_on c.at.ensures.works_out c.directory_place.ensures.works_out)
      (λ T is. rw (ap (at T) (sym c.as_slice.ensures.value) ∙ is.0, is.1) refl);
}
