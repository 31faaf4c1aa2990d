use Rattle.su_inverse.proofs.WholeLemmas.{batch_kinds, back_after}
use Rattle.su_inverse.proofs.laws.undo_after_batch.Goals as goal

pub returns-clause-kinds : goal.returns-clause-kinds
returns-clause-kinds c = batch_kinds

pub returns-clause-back : goal.returns-clause-back
returns-clause-back c = back_after
