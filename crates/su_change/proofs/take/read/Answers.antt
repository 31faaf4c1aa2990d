use Rattle.su_format.proofs.Public.{then_took, then_refused, first_refused, made, handed_on}
use Rattle.su_change.specs.Take.{take_fields}
use Rattle.su_change.proofs.take.read.Goals as goal

pub returns-in_err-file : goal.returns-in_err-file
unfolding take_fields
returns-in_err-file c = handed_on _ _ c.from_residual.ensures.1 (first_refused _ _ c.in_err-file.ensures.takes)

pub returns-in_err-body : goal.returns-in_err-body
unfolding take_fields
returns-in_err-body c =
    handed_on _ _ c.from_residual-in_err-body.ensures.1
    (then_refused _ _ c.in_ok-file.ensures.takes (first_refused _ _ c.in_err-body.ensures.takes))

pub returns : goal.returns
unfolding take_fields
returns c = then_took _ _ c.in_ok-file.ensures.takes (then_took _ _ c.in_ok-body.ensures.takes (made _ _))
