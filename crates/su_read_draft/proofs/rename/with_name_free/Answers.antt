use Rattle.std.proofs.Common.{◌∙◌, refl, Ok}
use Rattle.std.proofs.lemmas.Result.{err_from_is_err_and}
use Rattle.su_reading.proofs.Public.{joined, ends_ok, stops}
use Rattle.su_draft.specs.Rename.{with_name_free}
use Rattle.su_read_draft.proofs.Steps.{ends_given, same_ok}
use Rattle.su_read_draft.specs.Seen.{seen_draft}
use Rattle.su_draft.specs.Draft.{with_operation}
use Rattle.su_op.specs.declared.operations.Op.TheVariants.{Unlink}
use Rattle.su_read_draft.proofs.rename.with_name_free.Goals as goal

pub returns-in_err-place : goal.returns-in_err-place
unfolding with_name_free
returns-in_err-place g c =
    let p = err_from_is_err_and c.from_residual.result c.from_residual.ensures.1 in
    record { works_out = stops p.0 (cc (c.in_err-place.was, p.2)) p.1 c.directory_place.ensures.works_out (λ T why. rw why refl) }

pub returns-in_default : goal.returns-in_default
unfolding with_name_free
returns-in_default g c = record {
  works_out = ends_ok c.in_ok-replaced.field-0 c.args.draft c.in_ok-replaced.was refl (joined c.in_ok-place.place c.in_ok-place.was g.met.R.TreeReader.follows_on c.directory_place.ensures.works_out c.led_to.ensures.works_out)
      (λ T is. rw (is.0, same_ok is.1 ∙ c.in_default.is) refl);
}

pub returns-in_err-with_take : goal.returns-in_err-with_take
unfolding with_name_free
returns-in_err-with_take g c =
    let p = err_from_is_err_and c.from_residual-in_err-with_take.result c.from_residual-in_err-with_take.ensures.1 in
    record {
      works_out = stops p.0 (cc (c.in_err-with_take.was, p.2)) p.1 (joined c.in_ok-replaced.field-0 c.in_ok-replaced.was g.met.R.TreeReader.follows_on (joined c.in_ok-place.place c.in_ok-place.was g.met.R.TreeReader.follows_on c.directory_place.ensures.works_out c.led_to.ensures.works_out) c.with_take.ensures.works_out)
          (λ T is. rw (is.0.0, same_ok is.0.1 ∙ c.in-Some.is, is.1) refl);
    }

pub returns : goal.returns
unfolding with_name_free
returns g c = record {
  works_out = ends_given seen_draft c.in_ok-with_take.field-0 c.with.result
      (Ok (with_operation (seen_draft c.in_ok-with_take.field-0) (Unlink (record { dir = c.args.directory.now; name = c.in_ok-clone.field-0; file = c.in-Some.replaced }))))
      c.in_ok-with_take.was (joined c.in_ok-replaced.field-0 c.in_ok-replaced.was g.met.R.TreeReader.follows_on (joined c.in_ok-place.place c.in_ok-place.was g.met.R.TreeReader.follows_on c.directory_place.ensures.works_out c.led_to.ensures.works_out) c.with_take.ensures.works_out) c.with.ensures
      (λ T is. rw (is.0.0, same_ok is.0.1 ∙ c.in-Some.is, is.1, c.in_ok-clone.ensures.cases) refl);
}
