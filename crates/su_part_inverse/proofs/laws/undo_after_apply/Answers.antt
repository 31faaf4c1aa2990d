use Rattle.su_part_inverse.proofs.LawLemmas.{put_back_after}
use Rattle.su_part_inverse.proofs.laws.undo_after_apply.Goals as goal

pub returns : goal.returns
returns c = put_back_after
