use Rattle.su_format.proofs.Public.{then_took, then_refused, first_refused, made, handed_on}
use Rattle.su_change.specs.Write.{write_fields}
use Rattle.su_change.proofs.write.read.Goals as goal

pub returns-in_err-file : goal.returns-in_err-file
unfolding write_fields
returns-in_err-file c = handed_on _ _ c.from_residual.ensures.1 (first_refused _ _ c.in_err-file.ensures.takes)

pub returns-in_err-off : goal.returns-in_err-off
unfolding write_fields
returns-in_err-off c =
    handed_on _ _ c.from_residual-in_err-off.ensures.1
    (then_refused _ _ c.in_ok-file.ensures.takes (first_refused _ _ c.in_err-off.ensures.takes))

pub returns-in_err-length : goal.returns-in_err-length
unfolding write_fields
returns-in_err-length c =
    handed_on _ _ c.from_residual-in_err-length.ensures.1
    (then_refused _ _ c.in_ok-file.ensures.takes (then_refused _ _ c.in_ok-off.ensures.takes (first_refused _ _ c.in_err-length.ensures)))

pub returns-in_err-bytes : goal.returns-in_err-bytes
unfolding write_fields
returns-in_err-bytes c =
    handed_on _ _ c.from_residual-in_err-bytes.ensures.1
    (then_refused _ _ c.in_ok-file.ensures.takes (then_refused _ _ c.in_ok-off.ensures.takes (then_refused _ _ c.in_ok-length.ensures (first_refused _ _ c.in_err-bytes.ensures.refused.0))))

pub returns : goal.returns
unfolding write_fields
returns c = rw c.in_ok-bytes-2.ensures.items (then_took _ _ c.in_ok-file.ensures.takes (then_took _ _ c.in_ok-off.ensures.takes (then_took _ _ c.in_ok-length.ensures (then_took _ _ c.in_ok-bytes.ensures.found (made _ _)))))
