use Rattle.std.proofs.Common.{w32, bit_and, bit_xor, ◌∙◌}
use Rattle.sha_lanes.proofs.ChMaj.{ch_short}
use Rattle.sha_lanes.proofs.LaneLemmas.{reads_itself, reads_op, lane_lt}
use Rattle.sha_lanes.proofs.words.ch.Goals as goal

pub returns : goal.returns
returns c l low =
    let x = reads_itself c.args.x c.fits-x.0 in
    let y = reads_itself c.args.y c.fits-y.0 in
    let z = reads_itself c.args.z c.fits-z.0 in
    (reads_op bit_xor z (reads_op bit_and x (reads_op bit_xor y z))).lane l low
    ∙ ch_short w32 _ _ _ (lane_lt _ c.fits-x l low) (lane_lt _ c.fits-y l low) (lane_lt _ c.fits-z l low)
