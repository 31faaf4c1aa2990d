use Rattle.su_fork.specs.Events.{all_taken}
use Rattle.su_fork.proofs.Runs.{held_list}
use Rattle.su_fork.proofs.Forking.{as_made}
use Rattle.su_fork.proofs.laws.commits_stand_as_made.Goals as goal

pub returns : goal.returns
returns c w es u k ys r apart honestly h hy = as_made w es r (all_taken es) (λ c i. i) apart honestly u ys (held_list w es k ys r hy) h
