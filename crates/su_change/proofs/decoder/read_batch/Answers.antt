use Rattle.su_format.proofs.Public.{then_took, first_refused, made, handed_on}
use Rattle.su_change.specs.Batch.{batch_fields}
use Rattle.su_change.proofs.decoder.read_batch.Goals as goal

pub returns-in_err-batch : goal.returns-in_err-batch
unfolding batch_fields
returns-in_err-batch c = handed_on _ _ c.from_residual.ensures.1 (first_refused _ _ c.in_err-batch.ensures)

pub returns : goal.returns
unfolding batch_fields
returns c = then_took _ _ c.in_ok-batch.ensures (made _ _)
