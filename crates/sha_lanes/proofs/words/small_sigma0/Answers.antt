use Rattle.std.proofs.Common.{bit_xor}
use Rattle.sha_lanes.proofs.LaneLemmas.{reads_itself, reads_op, reads_rotated, reads_shifted}
use Rattle.sha_lanes.proofs.words.small_sigma0.Goals as goal

pub returns : goal.returns
returns c =
    let x = reads_itself c.args.x c.fits-x.0 in
    (reads_op bit_xor (reads_op bit_xor (reads_rotated 7 25 x) (reads_rotated 18 14 x)) (reads_shifted 3 x)).lane
