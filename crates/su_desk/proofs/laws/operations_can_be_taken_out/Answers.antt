use Rattle.su_op.specs.Batch.{store}
use Rattle.su_op.proofs.Public.{batches_lawful as store_lawful}
use Rattle.su_undo.proofs.TakingOut.{undo_is_safe}
use Rattle.su_desk.proofs.laws.operations_can_be_taken_out.Goals as goal

pub returns : goal.returns
returns c ro = undo_is_safe (store ro) (store_lawful ro)
