use Rattle.std.proofs.Common.{◌<◌, length, sym, ◌∙◌, arith}
use Rattle.std.proofs.lemmas.Bool.Decides.{nat_tests}
use Rattle.su_kept_areas.specs.Lent.{area_of}
use Rattle.su_kept_areas.proofs.SidedLemmas.{one_ahead, one_passed, side_found}
use Rattle.su_kept_areas.proofs.sided.from_side.Goals as goal

pub returns-then-has-clause-value : goal.returns-then-has-clause-value
returns-then-has-clause-value c =
    side_found c.args.side c.args.bytes.now c.loop-side.left.now c.sides_of.result c.loop-side.invariant (record { told = c.sides_of.ensures }) (sym c.has.ensures ∙ c.if-has.true)

pub split_sided-requires : goal.split_sided-requires
split_sided-requires c =
    let some : 0 < length c.loop-side.left.now = grind (arith, nat_tests, c.loop-side-test.true, c.is_empty.ensures) in
    one_ahead c.args.side c.args.bytes.now c.loop-side.left.now c.requires c.loop-side.invariant some

pub loop-side-preserved : goal.loop-side-preserved
loop-side-preserved c =
    let some : 0 < length c.loop-side.left.now = grind (arith, nat_tests, c.loop-side-test.true, c.is_empty.ensures) in
    one_passed c.args.side c.args.bytes.now c.loop-side.left.now c.sides_of.result (area_of c.split_sided.result.0) c.split_sided.result.1.now c.loop-side.invariant (record { told = c.sides_of.ensures })
    (sym c.has.ensures ∙ c.if-has.false) (record { told = c.split_sided.ensures.value }) some c.split_sided.ensures.shorter
