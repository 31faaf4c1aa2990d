use Rattle.std.proofs.Common.{rules}
use Rattle.su_kept_areas.specs.Marks.{name_mark}
use Rattle.su_kept_areas.proofs.marks.name_mark.Goals as goal

pub returns : goal.returns
unfolding name_mark
returns c = search rules
