use Rattle.std.proofs.Common.{arith}
use Rattle.su_format.specs.Format.{part}
use Rattle.su_format.proofs.Public.{goes_on, first_refused, handed_on}
use Rattle.su_change.specs.Batch.{count_part, batch_format}
use Rattle.su_change.proofs.batch.read.Goals as goal

pub returns-in_err-count : goal.returns-in_err-count
unfolding batch_format
returns-in_err-count c = handed_on _ _ c.from_residual.ensures.1 (first_refused _ _ c.in_err-count.ensures)

pub read_operations-requires : goal.read_operations-requires
unfolding count_part part
read_operations-requires c = let count = c.in_ok-count.ensures.spelled.0.0 in omega (arith, count)

pub returns : goal.returns
unfolding batch_format
returns c = goes_on _ _ _ _ _ _ _ c.in_ok-count.ensures c.read_operations.ensures
