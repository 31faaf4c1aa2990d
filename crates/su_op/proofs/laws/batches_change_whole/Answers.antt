use Rattle.su_op.proofs.BatchLemmas.{batch_kind_written, batch_block_written}
use Rattle.su_op.proofs.laws.batches_change_whole.Goals as goal

pub returns-clause-kind : goal.returns-clause-kind
returns-clause-kind c = batch_kind_written

pub returns-clause-block : goal.returns-clause-block
returns-clause-block c = batch_block_written
