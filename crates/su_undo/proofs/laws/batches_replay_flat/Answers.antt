use Rattle.su_undo.proofs.CopyBatches.{copy_batches_flat}
use Rattle.su_undo.proofs.laws.batches_replay_flat.Goals as goal

pub returns : goal.returns
returns c = copy_batches_flat
