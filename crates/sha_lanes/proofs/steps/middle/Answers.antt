use Rattle.std.proofs.Common.{◌∙◌, arith}
use Rattle.sha2.specs.Sha256.{add32}
use Rattle.sha_lanes.proofs.LaneLemmas.{reads_itself, reads_op, reads_raised, reads_shifted, lane_lt}
use Rattle.sha_lanes.proofs.steps.middle.Goals as goal

pub returns : goal.returns
returns c = λ l low small.
    (reads_op add32 (reads_op add32 (reads_raised 16 (reads_itself c.args.index c.fits-index.0)) (reads_raised 8 (reads_itself c.args.step c.fits-step.0))) (reads_shifted 24 (reads_itself c.args.value c.fits-value.0))).lane l low
    ∙ omega (arith, small, lane_lt _ c.fits-index l low, lane_lt _ c.fits-value l low)
