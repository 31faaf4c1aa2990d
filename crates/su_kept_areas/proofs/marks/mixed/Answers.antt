use Rattle.std.proofs.Common.{rules}
use Rattle.su_kept_areas.specs.Marks.{mixed}
use Rattle.su_kept_areas.proofs.marks.mixed.Goals as goal

pub returns : goal.returns
unfolding mixed
returns c = search rules
