use Rattle.std.proofs.Common.{◌∙◌, sym, refl, inr}
use Rattle.su_reading.proofs.Public.{joined, ends_ok, ends_err}
use Rattle.su_read_draft.proofs.Steps.{place_none, place_dir, place_other, same_ok}
use Rattle.su_read_draft.proofs.walks.directory_place.Goals as goal

pub returns-in_default : goal.returns-in_default
returns-in_default g c = record {
  works_out = ends_err c.in_ok-place.field-0 _ c.in_ok-place.was refl c.body.ensures.finds
      (λ T is. inr (place_none T c.args.directory.now (sym c.in_default.is ∙ is)));
}

pub returns-then-branch : goal.returns-then-branch
returns-then-branch g c = record {
  works_out = ends_ok c.in_ok-is_directory.field-0 c.in-Some.place c.in_ok-is_directory.was refl
      (joined c.in_ok-place.field-0 c.in_ok-place.was g.met.R.TreeReader.follows_on c.body.ensures.finds c.is_directory.ensures.works_out)
      (λ T is. place_dir T c.args.directory.now c.in-Some.place (sym c.in-Some.is ∙ is.0) (same_ok is.1 ∙ c.if-branch.true));
}

pub returns-else-branch : goal.returns-else-branch
returns-else-branch g c = record {
  works_out = ends_err c.in_ok-is_directory.field-0 _ c.in_ok-is_directory.was refl
      (joined c.in_ok-place.field-0 c.in_ok-place.was g.met.R.TreeReader.follows_on c.body.ensures.finds c.is_directory.ensures.works_out)
      (λ T is. inr (place_other T c.args.directory.now c.in-Some.place (sym c.in-Some.is ∙ is.0) (same_ok is.1 ∙ c.if-branch.false)));
}
