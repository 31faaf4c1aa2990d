use Rattle.std.proofs.Common.{bit_and, bit_xor, slice_index, ◌∙◌}
use Rattle.sha_lanes.proofs.ChMaj.{maj_short}
use Rattle.sha_lanes.proofs.LaneLemmas.{reads_itself, reads_op}
use Rattle.sha_lanes.proofs.words.maj.Goals as goal

pub returns : goal.returns
returns c l low =
    let x = reads_itself c.args.x c.fits-x.0 in
    let y = reads_itself c.args.y c.fits-y.0 in
    let z = reads_itself c.args.z c.fits-z.0 in
    (reads_op bit_xor y (reads_op bit_and (reads_op bit_xor x y) (reads_op bit_xor y z))).lane l low
    ∙ maj_short (slice_index c.args.x l) (slice_index c.args.y l) (slice_index c.args.z l)
