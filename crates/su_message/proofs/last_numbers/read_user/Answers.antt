use Rattle.su_format.proofs.Public.{then_took, then_refused, first_refused, made, handed_on}
use Rattle.su_message.specs.LastNumbers.{user_number_format}
use Rattle.su_message.proofs.last_numbers.read_user.Goals as goal

pub returns-in_err-user : goal.returns-in_err-user
unfolding user_number_format
returns-in_err-user c = handed_on _ _ c.from_residual.ensures.1 (first_refused _ _ c.in_err-user.ensures)

pub returns-in_err-number : goal.returns-in_err-number
unfolding user_number_format
returns-in_err-number c =
    handed_on _ _ c.from_residual-in_err-number.ensures.1
    (then_refused _ _ c.in_ok-user.ensures (first_refused _ _ c.in_err-number.ensures.takes))

pub returns : goal.returns
unfolding user_number_format
returns c = then_took _ _ c.in_ok-user.ensures (then_took _ _ c.in_ok-number.ensures.takes (made _ _))
