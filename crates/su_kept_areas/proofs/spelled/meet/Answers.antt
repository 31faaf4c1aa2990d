use Rattle.std.proofs.Common.{◌≡◌, ◌<◌, length, sym, ◌∙◌, arith}
use Rattle.std.proofs.lemmas.Bool.Decides.{nat_tests}
use Rattle.std.specs.List.{list_any}
use Rattle.su_op.specs.Area.{overlaps}
use Rattle.su_kept_areas.specs.Lent.{area_of}
use Rattle.su_kept_areas.specs.declared.marks.Side.TheVariants.{Read}
use Rattle.su_kept_areas.proofs.Lists.{one_left, none_left, found, passed}
use Rattle.su_kept_areas.proofs.spelled.meet.Goals as goal

pub split_first-first-requires : goal.split_first-first-requires
split_first-first-requires c =
    let some : 0 < length c.loop-left.left.now = grind (arith, nat_tests, c.loop-left-test.true, c.is_empty.ensures) in
    let w = c.requires.second.0 in
    one_left Read (λ a. list_any (overlaps a) w) c.args.bytes.now c.loop-left.left.now c.requires.first (c.loop-left.invariant w c.requires.second.1) some

pub returns-then-overlaps_one : goal.returns-then-overlaps_one
returns-then-overlaps_one c u w s t =
    let some : 0 < length c.loop-left.left.now = grind (arith, nat_tests, c.loop-left-test.true, c.is_empty.ensures) in
    found Read (λ a. list_any (overlaps a) w) c.args.bytes.now c.loop-left.left.now (area_of c.split_first-first.result.0) c.split_first-first.result.1.now (c.loop-left.invariant w t) (record { told = c.split_first-first.ensures.value }) some
    (sym (c.overlaps_one.ensures w t) ∙ c.if-overlaps_one.true) u s

pub loop-left-preserved : goal.loop-left-preserved
loop-left-preserved c w t =
    let some : 0 < length c.loop-left.left.now = grind (arith, nat_tests, c.loop-left-test.true, c.is_empty.ensures) in
    passed Read (λ a. list_any (overlaps a) w) c.args.bytes.now c.loop-left.left.now (area_of c.split_first-first.result.0) c.split_first-first.result.1.now (c.loop-left.invariant w t) (record { told = c.split_first-first.ensures.value }) some
    (sym (c.overlaps_one.ensures w t) ∙ c.if-overlaps_one.false)

pub returns : goal.returns
returns c u w s t =
    let none : length c.loop-left.left.now ≡ 0 = grind (arith, nat_tests, c.loop-left-test.false, c.is_empty.ensures) in
    none_left Read (λ a. list_any (overlaps a) w) c.args.bytes.now c.loop-left.left.now (c.loop-left.invariant w t) none u s
