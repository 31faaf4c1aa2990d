use Rattle.su_format.proofs.Public.{then_took, then_refused, first_refused, made, handed_on}
use Rattle.su_message.proofs.replies.read_refused.Goals as goal

pub returns-in_err-number : goal.returns-in_err-number
returns-in_err-number c = handed_on _ _ c.from_residual.ensures.1 (first_refused _ _ c.in_err-number.ensures.takes)

pub returns-in_err-argument : goal.returns-in_err-argument
returns-in_err-argument c =
    handed_on _ _ c.from_residual-in_err-argument.ensures.1
    (then_refused _ _ c.in_ok-number.ensures.takes (first_refused _ _ c.in_err-argument.ensures.takes))

pub returns : goal.returns
returns c = then_took _ _ c.in_ok-number.ensures.takes (then_took _ _ c.in_ok-argument.ensures.takes (made _ _))
