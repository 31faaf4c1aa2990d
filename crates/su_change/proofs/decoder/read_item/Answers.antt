use Rattle.std.proofs.Common.{ap, arith}
use Rattle.su_bytes.specs.declared.refusals.Refusal.TheVariants.{Malformed}
use Rattle.su_format.proofs.Public.{handed_on}
use Rattle.su_change.proofs.Items.{place_rises, taken_within, too_long, parts_refused}
use Rattle.su_change.proofs.decoder.read_item.Goals as goal

pub returns-in_err-change : goal.returns-in_err-change
returns-in_err-change c = handed_on _ _ c.from_residual.ensures.1 (parts_refused _ _ c.in_err-change.ensures)

pub overflow_sub-place : goal.overflow_sub-place
overflow_sub-place c =
    let rises = place_rises c.args.reader.now c.read_marked.new.reader c.in_ok-change.change c.in_ok-change.ensures in
    omega (arith, rises, c.place-place.ensures, c.place.ensures)

pub returns-then-place : goal.returns-then-place
returns-then-place c =
    too_long c.args.reader.now c.read_marked.new.reader c.in_ok-change.change c.in_ok-change.ensures _ (ap Malformed c.place-place.ensures)
    (omega (arith, c.place-place.ensures, c.place.ensures, c.if-place.true))

pub returns : goal.returns
returns c =
    let rises = place_rises c.args.reader.now c.read_marked.new.reader c.in_ok-change.change c.in_ok-change.ensures in
    taken_within c.args.reader.now c.read_marked.new.reader c.in_ok-change.change c.in_ok-change.ensures
    (omega (arith, rises, c.place-place.ensures, c.place.ensures, c.if-place.false))
