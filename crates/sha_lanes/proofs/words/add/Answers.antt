use Rattle.sha2.specs.Sha256.{add32}
use Rattle.sha_lanes.proofs.LaneLemmas.{reads_itself, reads_op}
use Rattle.sha_lanes.proofs.words.add.Goals as goal

pub returns : goal.returns
returns c = (reads_op add32 (reads_itself c.args.x c.fits-x.0) (reads_itself c.args.y c.fits-y.0)).lane
