use Rattle.su_format.proofs.Public.{then_took, first_refused, made, handed_on}
use Rattle.su_change.proofs.decoder.read_alone.Goals as goal

pub returns-in_err-operation : goal.returns-in_err-operation
returns-in_err-operation c = handed_on _ _ c.from_residual.ensures.1 (first_refused _ _ c.in_err-operation.ensures)

pub returns : goal.returns
returns c = rw c.of.ensures (then_took _ _ c.in_ok-operation.ensures (made _ _))
