use Rattle.std.proofs.Common.{◌∙◌, ap, sym, refl, None, Ok}
use Rattle.su_reading.proofs.Public.{ends_ok}
use Rattle.su_op.specs.DropBody.{group_home}
use Rattle.su_read_draft.proofs.Steps.{head_there, head_none}
use Rattle.su_read_draft.proofs.stale.group_home.Goals as goal

pub returns-in-Some : goal.returns-in-Some
returns-in-Some g c = record {
  works_out = ends_ok c.in_ok-head.field-0 c.as_group_file.result c.in_ok-head.was refl c.head.ensures.finds
      (λ T is. ap Ok (ap group_home (head_there T c.args.place c.in-Some.head (sym c.in-Some.is ∙ is)) ∙ sym (c.as_group_file.ensures c.in-Some.head.kind)));
}

pub returns-in-None : goal.returns-in-None
returns-in-None g c = record {
  works_out = ends_ok c.in_ok-head.field-0 None c.in_ok-head.was refl c.head.ensures.finds
      (λ T is. ap Ok (ap group_home (head_none T c.args.place (sym c.in-None.is ∙ is))));
}
