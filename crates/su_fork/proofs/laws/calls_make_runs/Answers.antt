use Rattle.std.proofs.Common.{refl}
use Rattle.su_fork.proofs.Calling.{at_first, taking_runs, signing_runs, others_stay}
use Rattle.su_fork.proofs.laws.calls_make_runs.Goals as goal

pub returns : goal.returns
returns c = record {
  new = at_first;
  leaving = λ w es k n m. refl;
  taking = taking_runs;
  signing = signing_runs;
  others = others_stay;
}
