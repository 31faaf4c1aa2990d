use Rattle.su_format.proofs.Public.{then_took, first_refused, made, handed_on}
use Rattle.su_change.specs.NameAt.{link_fields}
use Rattle.su_change.proofs.operation.read_link.Goals as goal

pub returns-in_err-dir : goal.returns-in_err-dir
unfolding link_fields
returns-in_err-dir c = handed_on _ _ c.from_residual.ensures.1 (first_refused _ _ c.in_err-dir.ensures)

pub returns : goal.returns
unfolding link_fields
returns c = then_took _ _ c.in_ok-dir.ensures (made _ _)
