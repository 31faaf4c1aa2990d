use Rattle.std.proofs.Common.{◌∙◌, ap, sym, refl, Ok, true, false}
use Rattle.su_reading.proofs.Public.{ends_ok}
use Rattle.su_table.specs.Query.{is_dir_kind}
use Rattle.su_read_draft.proofs.Steps.{head_there, head_none}
use Rattle.su_read_draft.proofs.walks.is_directory.Goals as goal

pub returns-in-Dir : goal.returns-in-Dir
returns-in-Dir g c = record {
  works_out = ends_ok c.in_ok-head.field-0 true c.in_ok-head.was refl c.head.ensures.finds
      (λ T is. ap Ok (ap is_dir_kind (head_there T c.args.place.now c.in-Some.head (sym c.in-Some.is ∙ is)) ∙ rw c.in-Dir.is refl));
}

pub returns-in-File : goal.returns-in-File
returns-in-File g c = record {
  works_out = ends_ok c.in_ok-head.field-0 false c.in_ok-head.was refl c.head.ensures.finds
      (λ T is. ap Ok (ap is_dir_kind (head_there T c.args.place.now c.in-Some.head (sym c.in-Some.is ∙ is)) ∙ rw c.in-File.is refl));
}

pub returns-in-None : goal.returns-in-None
returns-in-None g c = record {
  works_out = ends_ok c.in_ok-head.field-0 false c.in_ok-head.was refl c.head.ensures.finds
      (λ T is. ap Ok (ap is_dir_kind (head_none T c.args.place.now (sym c.in-None.is ∙ is))));
}
