use Rattle.std.proofs.Common.{◌∙◌, refl, inr}
use Rattle.std.proofs.lemmas.Result.{err_from_is_err_and}
use Rattle.su_reading.proofs.Public.{joined, ends_ok, ends_err, stops}
use Rattle.su_read_draft.proofs.Steps.{entry_refused, entry_led, entry_none, same_ok}
use Rattle.su_read_draft.proofs.walks.entry.Goals as goal

pub returns-in_err-place : goal.returns-in_err-place
returns-in_err-place g c =
    let p = err_from_is_err_and c.from_residual.result c.from_residual.ensures.1 in
    record { works_out = stops p.0 (cc (c.in_err-place.was, p.2)) p.1 c.directory_place.ensures.works_out (λ T why. entry_refused T c.args.directory.now c.args.name.now p.0 why) }

pub returns-in-Some : goal.returns-in-Some
returns-in-Some g c = record {
  works_out = ends_ok c.in_ok-file.field-0 c.in-Some.file c.in_ok-file.was refl
      (joined c.in_ok-place.place c.in_ok-place.was g.met.R.TreeReader.follows_on c.directory_place.ensures.works_out c.led_to.ensures.works_out)
      (λ T is. entry_led T c.args.directory.now c.args.name.now c.in_ok-place.place c.in-Some.file is.0 (same_ok is.1 ∙ c.in-Some.is));
}

pub returns-in-None : goal.returns-in-None
returns-in-None g c = record {
  works_out = ends_err c.in_ok-file.field-0 _ c.in_ok-file.was refl
      (joined c.in_ok-place.place c.in_ok-place.was g.met.R.TreeReader.follows_on c.directory_place.ensures.works_out c.led_to.ensures.works_out)
      (λ T is. inr (entry_none T c.args.directory.now c.args.name.now c.in_ok-place.place is.0 (same_ok is.1 ∙ c.in-None.is)));
}
