use Rattle.su_op.proofs.BatchLemmas.{batches_lawful}
use Rattle.su_op.proofs.laws.batches_are_local.Goals as goal

pub returns : goal.returns
returns c = batches_lawful
