use Rattle.std.proofs.Common.{◌∙◌, sym}
use Rattle.su_part_forest.specs.Seen.{seen}
use Rattle.su_op.proofs.KeyLemmas.{place_eq-derived}
use Rattle.su_op.proofs.DropBodyLemmas.{led_to_body, led_nowhere}
use Rattle.su_perform.proofs.drop_body.leads_here.Goals as goal

pub returns-in-Some : goal.returns-in-Some
returns-in-Some c sound =
    c.eq.ensures ∙ place_eq-derived _ _
    ∙ sym (led_to_body (seen c.args.forest.now) c.args.file.now c.args.place.now _ (sym (c.body.ensures sound) ∙ c.in-Some.is))

pub returns-in-None : goal.returns-in-None
returns-in-None c sound = sym (led_nowhere (seen c.args.forest.now) c.args.file.now c.args.place.now (sym (c.body.ensures sound) ∙ c.in-None.is))
