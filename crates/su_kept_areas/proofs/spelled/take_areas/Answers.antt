use Rattle.std.proofs.Common.{◌≡◌, ◌<◌, IfErr, length, arith}
use Rattle.std.proofs.lemmas.Bool.Decides.{nat_tests}
use Rattle.su_bytes.specs.declared.refusals.Refusal.TheVariants.{NoMemory}
use Rattle.su_format.proofs.Public.{handed_on_to}
use Rattle.su_kept_areas.specs.Lent.{area_of}
use Rattle.su_kept_areas.proofs.Lists.{one_unread, one_read, all_read}
use Rattle.su_kept_areas.proofs.spelled.take_areas.Goals as goal

pub split_first-first-requires : goal.split_first-first-requires
split_first-first-requires c =
    let some : 0 < length c.loop-left.left.now = grind (arith, nat_tests, c.loop-left-test.true, c.is_empty.ensures) in
    one_unread c.args.side c.args.bytes.now c.loop-left.areas.items c.loop-left.left.now c.requires c.loop-left.invariant some

pub returns-in_err-area-clause-refused : goal.returns-in_err-area-clause-refused
returns-in_err-area-clause-refused c =
    handed_on_to (λ r. IfErr r (λ e. e ≡ NoMemory)) _ _ c.from_residual.ensures.1 (c.in_err-area.ensures.refused c.split_first-first.ensures.is)

pub loop-left-preserved : goal.loop-left-preserved
loop-left-preserved c =
    let some : 0 < length c.loop-left.left.now = grind (arith, nat_tests, c.loop-left-test.true, c.is_empty.ensures) in
    rw (c.in_ok-push.ensures.items, c.in_ok-area.ensures.value)
    (one_read c.args.side c.args.bytes.now c.loop-left.areas.items c.loop-left.left.now (area_of c.split_first-first.result.0) c.split_first-first.result.1.now c.loop-left.invariant (record { told = c.split_first-first.ensures.value }) some)

pub returns-clause-value : goal.returns-clause-value
returns-clause-value c =
    let none : length c.loop-left.left.now ≡ 0 = grind (arith, nat_tests, c.loop-left-test.false, c.is_empty.ensures) in
    all_read c.args.side c.args.bytes.now c.loop-left.areas.items c.loop-left.left.now c.loop-left.invariant none
