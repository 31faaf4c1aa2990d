use Rattle.std.proofs.Common.{refl}
use Rattle.sha_lanes.proofs.LaneLemmas.{below_eight}
use Rattle.sha_lanes.proofs.blocks.start.Goals as goal

pub returns : goal.returns
returns c = below_eight _ refl refl refl refl refl refl refl refl
