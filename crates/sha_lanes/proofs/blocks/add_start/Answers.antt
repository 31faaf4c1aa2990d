use Rattle.sha2.specs.Sha256.{add32}
use Rattle.sha_lanes.proofs.LaneLemmas.{reads_itself, reads_op, reads_splat}
use Rattle.sha_lanes.proofs.blocks.add_start.Goals as goal

pub returns : goal.returns
returns c = (reads_op add32 (reads_splat c.args.number) (reads_itself c.args.x c.fits-x.0)).lane
