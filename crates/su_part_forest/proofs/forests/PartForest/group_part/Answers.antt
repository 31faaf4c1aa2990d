use Rattle.std.proofs.Common.{◌∙◌}
use Rattle.std.specs.Prelude.{slice_get}
use Rattle.su_part_forest.proofs.Asked.{got_part}
use Rattle.su_part_forest.proofs.forests.PartForest.group_part.Goals as goal

pub returns : goal.returns
returns c =
    let same = c.from.ensures ∙ c.number.ensures.value in
    got_part c.deref.result.now c.from.result c.get.result c.get.ensures.lookup ∙ (λ i. slice_get (c.deref.ensures.value i) (same i))
