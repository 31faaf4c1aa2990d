use Rattle.su_undo.proofs.CopyBatches.{copy_batches_lawful}
use Rattle.su_undo.proofs.laws.batches_are_lawful.Goals as goal

pub returns : goal.returns
returns c = copy_batches_lawful
