use Rattle.su_undo.proofs.CopyBatches.{copy_batches_block}
use Rattle.su_undo.proofs.laws.batches_block_by_actions.Goals as goal

pub returns : goal.returns
returns c = copy_batches_block
