use Rattle.su_op.proofs.StoreLemmas.{store_lawful}
use Rattle.su_op.proofs.laws.operations_are_local.Goals as goal

pub returns : goal.returns
returns c = store_lawful
