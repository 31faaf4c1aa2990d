use Rattle.su_format.proofs.Public.{then_took, then_refused, first_refused, made, handed_on}
use Rattle.su_message.proofs.replies.read_granted.Goals as goal

pub returns-in_err-count : goal.returns-in_err-count
returns-in_err-count c = handed_on _ _ c.from_residual.ensures.1 (first_refused _ _ c.in_err-count.ensures.takes)

pub returns-in_err-last : goal.returns-in_err-last
returns-in_err-last c =
    handed_on _ _ c.from_residual-in_err-last.ensures.1
    (then_refused _ _ c.in_ok-count.ensures.takes (first_refused _ _ c.in_err-last.ensures))

pub returns : goal.returns
returns c = then_took _ _ c.in_ok-count.ensures.takes (then_took _ _ c.in_ok-last.ensures (made _ _))
