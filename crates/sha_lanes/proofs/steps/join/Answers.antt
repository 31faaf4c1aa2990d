use Rattle.std.proofs.Common.{◌∙◌, arith}
use Rattle.sha2.specs.Sha256.{add32}
use Rattle.sha_lanes.proofs.LaneLemmas.{reads_itself, reads_op, reads_raised, reads_shifted, lane_lt}
use Rattle.sha_lanes.proofs.steps.join.Goals as goal

pub returns : goal.returns
returns c = λ l low.
    (reads_op add32 (reads_raised 8 (reads_itself c.args.x c.fits-x.0)) (reads_shifted 24 (reads_itself c.args.y c.fits-y.0))).lane l low
    ∙ omega (arith, lane_lt _ c.fits-x l low, lane_lt _ c.fits-y l low)
