use Rattle.std.proofs.Common.{arith}
use Rattle.sha_lanes.proofs.LaneLemmas.{lane_lt}
use Rattle.sha_lanes.proofs.steps.whole.Goals as goal

pub returns : goal.returns
returns c = λ l low. omega (arith, lane_lt _ c.fits-x l low)
