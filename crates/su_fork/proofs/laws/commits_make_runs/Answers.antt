use Rattle.su_fork.proofs.Committing.{none_forged, commits_in}
use Rattle.su_fork.proofs.laws.commits_make_runs.Goals as goal

pub returns : goal.returns
returns c = record {
  none = none_forged;
  more = λ w es k n c. commits_in w es k c;
}
