use Rattle.sha2.specs.Sha256.{add32}
use Rattle.sha_lanes.proofs.LaneLemmas.{reads_itself, reads_op, reads_splat}
use Rattle.sha_lanes.proofs.words.add_number.Goals as goal

pub returns : goal.returns
returns c = (reads_op add32 (reads_itself c.args.x c.fits-x.0) (reads_splat c.args.number)).lane
