use Rattle.std.proofs.Common.{◌∙◌, ap, sym, refl, Some, None, Ok, false}
use Rattle.su_reading.proofs.Public.{ends_ok}
use Rattle.su_op.proofs.KeyLemmas.{place_eq-derived}
use Rattle.su_table.specs.Cell.{Cell.Pointer, val}
use Rattle.su_read_draft.proofs.Steps.{body_led, led_here, led_nowhere}
use Rattle.su_read_draft.proofs.stale.leads_here.Goals as goal

pub returns-in-Some : goal.returns-in-Some
returns-in-Some g c = record {
  works_out = ends_ok c.in_ok-body.field-0 c.eq.result c.in_ok-body.was refl c.body.ensures.finds
      (λ T is. ap Ok (led_here (val T (Pointer c.args.file.now)) c.in-Some.body c.args.place.now (body_led T c.args.file.now (Some c.in-Some.body) (sym c.in-Some.is ∙ is)) ∙ sym (c.eq.ensures ∙ place_eq-derived c.in-Some.body c.args.place.now)));
}

pub returns-in-None : goal.returns-in-None
returns-in-None g c = record {
  works_out = ends_ok c.in_ok-body.field-0 false c.in_ok-body.was refl c.body.ensures.finds
      (λ T is. ap Ok (led_nowhere (val T (Pointer c.args.file.now)) c.args.place.now (body_led T c.args.file.now None (sym c.in-None.is ∙ is))));
}
