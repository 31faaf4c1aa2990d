use Rattle.std.proofs.Common.{arith}
use Rattle.su_format.specs.Format.{part}
use Rattle.su_format.proofs.Public.{goes_on, first_refused, handed_on}
use Rattle.su_change.specs.Outline.{number_part, outline_format}
use Rattle.su_change.proofs.outlines.read.Goals as goal

pub returns-in_err-count : goal.returns-in_err-count
unfolding outline_format
returns-in_err-count c = handed_on _ _ c.from_residual.ensures.1 (first_refused _ _ c.in_err-count.ensures)

pub read_operations-requires : goal.read_operations-requires
unfolding number_part part
read_operations-requires c = let count = c.in_ok-count.ensures.spelled.0.0 in omega (arith, count)

pub returns : goal.returns
unfolding outline_format
returns c = goes_on _ _ _ _ _ _ _ c.in_ok-count.ensures c.read_operations.ensures
