use Rattle.su_op.proofs.StoreLemmas.{row_of}
use Rattle.su_op.proofs.laws.table_of_cells.Goals as goal

pub returns : goal.returns
returns c = row_of
