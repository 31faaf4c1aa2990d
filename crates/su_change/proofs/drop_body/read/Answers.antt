use Rattle.su_format.proofs.Public.{then_took, first_refused, made, handed_on}
use Rattle.su_change.specs.DropBody.{drop_fields}
use Rattle.su_change.proofs.drop_body.read.Goals as goal

pub returns-in_err-body : goal.returns-in_err-body
unfolding drop_fields
returns-in_err-body c = handed_on _ _ c.from_residual.ensures.1 (first_refused _ _ c.in_err-body.ensures.takes)

pub returns : goal.returns
unfolding drop_fields
returns c = then_took _ _ c.in_ok-body.ensures.takes (made _ _)
