use Rattle.std.proofs.Common.{length, ap, arith}
use Rattle.su_format.specs.Format.{part}
use Rattle.su_format.specs.Part.{u8_part}
use Rattle.su_format.proofs.Public.{goes_on, first_refused, handed_on}
use Rattle.su_change.specs.Kinds.{one_of}
use Rattle.su_change.specs.Outline.{outlined_op}
use Rattle.su_change.proofs.outlines.read_operation.Goals as goal

pub returns-in_err-number : goal.returns-in_err-number
unfolding outlined_op one_of
returns-in_err-number c = handed_on _ _ c.from_residual.ensures.1 (first_refused _ _ c.in_err-number.ensures.takes)

pub read_fields-requires : goal.read_fields-requires
unfolding u8_part part
read_fields-requires c =
    let took = c.in_ok-number.ensures.takes in
    let long = ap length took.spelled.1 in
    omega (arith, took.place, long, c.place-place.ensures)

pub returns : goal.returns
unfolding outlined_op one_of
returns c = goes_on _ _ _ _ _ _ _ c.in_ok-number.ensures.takes c.read_fields.ensures
