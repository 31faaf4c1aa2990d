use Rattle.su_format.proofs.Public.{then_took, first_refused, made, handed_on}
use Rattle.su_change.proofs.decoder.read_undo.Goals as goal

pub returns-in_err-number : goal.returns-in_err-number
returns-in_err-number c = handed_on _ _ c.from_residual.ensures.1 (first_refused _ _ c.in_err-number.ensures.takes)

pub returns : goal.returns
returns c = then_took _ _ c.in_ok-number.ensures.takes (made _ _)
