use Rattle.std.proofs.Common.{◌≡◌, ◌<◌, length, sym, ◌∙◌, arith}
use Rattle.std.proofs.lemmas.Bool.Decides.{nat_tests}
use Rattle.su_kept_areas.specs.Pointer.{is_pointer_of}
use Rattle.su_kept_areas.specs.Lent.{area_of}
use Rattle.su_kept_areas.specs.declared.marks.Side.TheVariants.{Written}
use Rattle.su_kept_areas.proofs.Lists.{one_left, none_left, found, passed}
use Rattle.su_kept_areas.proofs.spelled.carries.Goals as goal

pub split_first-first-requires : goal.split_first-first-requires
split_first-first-requires c =
    let some : 0 < length c.loop-left.left.now = grind (arith, nat_tests, c.loop-left-test.true, c.is_empty.ensures) in
    one_left Written (is_pointer_of c.args.group) c.args.bytes.now c.loop-left.left.now c.requires c.loop-left.invariant some

pub returns-then-is_pointer_of : goal.returns-then-is_pointer_of
returns-then-is_pointer_of c =
    let some : 0 < length c.loop-left.left.now = grind (arith, nat_tests, c.loop-left-test.true, c.is_empty.ensures) in
    found Written (is_pointer_of c.args.group) c.args.bytes.now c.loop-left.left.now (area_of c.split_first-first.result.0) c.split_first-first.result.1.now c.loop-left.invariant (record { told = c.split_first-first.ensures.value }) some
    (sym c.is_pointer_of.ensures ∙ c.if-is_pointer_of.true)

pub loop-left-preserved : goal.loop-left-preserved
loop-left-preserved c =
    let some : 0 < length c.loop-left.left.now = grind (arith, nat_tests, c.loop-left-test.true, c.is_empty.ensures) in
    passed Written (is_pointer_of c.args.group) c.args.bytes.now c.loop-left.left.now (area_of c.split_first-first.result.0) c.split_first-first.result.1.now c.loop-left.invariant (record { told = c.split_first-first.ensures.value }) some
    (sym c.is_pointer_of.ensures ∙ c.if-is_pointer_of.false)

pub returns : goal.returns
returns c =
    let none : length c.loop-left.left.now ≡ 0 = grind (arith, nat_tests, c.loop-left-test.false, c.is_empty.ensures) in
    none_left Written (is_pointer_of c.args.group) c.args.bytes.now c.loop-left.left.now c.loop-left.invariant none
