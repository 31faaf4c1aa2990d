use Rattle.su_fork.proofs.Calling.{acting_runs}
use Rattle.su_fork.proofs.laws.acts_make_runs.Goals as goal

pub returns : goal.returns
returns c = record { acts = acting_runs }
