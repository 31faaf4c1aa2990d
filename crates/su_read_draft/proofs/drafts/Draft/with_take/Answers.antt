use Rattle.std.proofs.Common.{◌∙◌, refl}
use Rattle.su_reading.proofs.Public.{joined, ends_ok, ends}
use Rattle.su_read_draft.proofs.Steps.{take_needed, none_needed, same_ok}
use Rattle.su_read_draft.specs.Seen.{seen_draft}
use Rattle.su_read_draft.proofs.drafts.Draft.with_take.Goals as goal

pub returns-then-branch : goal.returns-then-branch
returns-then-branch g c = record {
  works_out = ends
      (joined c.in_ok-needs_take.field-0 c.in_ok-needs_take.was g.met.R.TreeReader.follows_on c.needs_take.ensures.works_out c.take.ensures.works_out)
      (λ T b is. take_needed T (seen_draft c.args.self) c.args.file.now (same_ok is.0 ∙ c.if-branch.true) ∙ is.1)
      (λ T e is. take_needed T (seen_draft c.args.self) c.args.file.now (same_ok is.0 ∙ c.if-branch.true) ∙ is.1);
}

pub returns-else-branch : goal.returns-else-branch
returns-else-branch g c = record {
  works_out = ends_ok c.in_ok-needs_take.field-0 c.args.self c.in_ok-needs_take.was refl c.needs_take.ensures.works_out
      (λ T is. none_needed T (seen_draft c.args.self) c.args.file.now (same_ok is ∙ c.if-branch.false));
}
