use Rattle.su_undo.proofs.CopyBatches.{copy_batches_inside}
use Rattle.su_undo.proofs.laws.nothing_read_inside.Goals as goal

pub returns : goal.returns
returns c = copy_batches_inside
