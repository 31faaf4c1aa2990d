use Rattle.su_fork.specs.Events.{all_taken}
use Rattle.su_fork.proofs.Runs.{held_list}
use Rattle.su_fork.proofs.Forking.{not_joined, never_joins}
use Rattle.su_fork.proofs.laws.forks_never_join.Goals as goal

pub returns : goal.returns
returns c = record {
  apart = λ w es j k ys r apart hy. not_joined w es r (all_taken es) (λ c i. i) apart j ys (held_list w es k ys r hy);
  ever = λ w es j k r apart. never_joins w es r (all_taken es) (λ c i. i) apart j k;
}
