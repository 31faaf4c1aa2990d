use Rattle.su_kept_areas.specs.Marks.{mark_at}
use Rattle.su_kept_areas.proofs.marks.Cells.mark.Goals as goal

pub returns : goal.returns
unfolding mark_at
returns c = cc
