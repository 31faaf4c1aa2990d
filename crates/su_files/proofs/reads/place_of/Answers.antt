use Rattle.std.proofs.Common.{◌∙◌, sym, refl, inr}
use Rattle.su_reading.proofs.Public.{ends_ok, ends_err}
use Rattle.su_files.proofs.Steps.{place_there, place_none}
use Rattle.su_files.proofs.reads.place_of.Goals as goal

pub returns-in-Some : goal.returns-in-Some
returns-in-Some g c = record {
  works_out = ends_ok c.in_ok-place.field-0 c.in-Some.place c.in_ok-place.was refl c.body.ensures.finds
      (λ T is. place_there T c.args.file.now c.in-Some.place (sym c.in-Some.is ∙ is));
}

pub returns-in-None : goal.returns-in-None
returns-in-None g c = record {
  works_out = ends_err c.in_ok-place.field-0 _ c.in_ok-place.was refl c.body.ensures.finds
      (λ T is. inr (place_none T c.args.file.now (sym c.in-None.is ∙ is)));
}
