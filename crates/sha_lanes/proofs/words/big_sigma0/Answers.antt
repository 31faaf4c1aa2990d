use Rattle.std.proofs.Common.{bit_xor}
use Rattle.sha_lanes.proofs.LaneLemmas.{reads_itself, reads_op, reads_rotated}
use Rattle.sha_lanes.proofs.words.big_sigma0.Goals as goal

pub returns : goal.returns
returns c =
    let x = reads_itself c.args.x c.fits-x.0 in
    (reads_op bit_xor (reads_op bit_xor (reads_rotated 2 30 x) (reads_rotated 13 19 x)) (reads_rotated 22 10 x)).lane
