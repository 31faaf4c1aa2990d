use Rattle.su_format.proofs.Public.{then_took, first_refused, made, handed_on}
use Rattle.su_message.proofs.replies.read_put_done.Goals as goal

pub returns-in_err-digest : goal.returns-in_err-digest
returns-in_err-digest c = handed_on _ _ c.from_residual.ensures.1 (first_refused _ _ c.in_err-digest.ensures.takes)

pub returns : goal.returns
returns c = then_took _ _ c.in_ok-digest.ensures.takes (made _ _)
