use Rattle.su_kept_areas.specs.Marks.{block_mark}
use Rattle.su_kept_areas.proofs.marks.block_mark.Goals as goal

pub returns : goal.returns
unfolding block_mark
returns c = cc
