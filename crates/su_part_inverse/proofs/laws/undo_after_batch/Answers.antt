use Rattle.su_part_inverse.proofs.LawLemmas.{back_after}
use Rattle.su_part_inverse.proofs.laws.undo_after_batch.Goals as goal

pub returns : goal.returns
returns c = back_after
