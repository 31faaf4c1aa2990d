use Rattle.su_undo.proofs.CopyBatches.{copy_batches_safe}
use Rattle.su_undo.proofs.laws.batches_can_be_undone.Goals as goal

pub returns : goal.returns
returns c = copy_batches_safe
