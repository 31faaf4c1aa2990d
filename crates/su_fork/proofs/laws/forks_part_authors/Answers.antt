use Rattle.su_fork.specs.Events.{all_taken}
use Rattle.su_fork.proofs.Runs.{held_list}
use Rattle.su_fork.proofs.Forking.{none_above}
use Rattle.su_fork.proofs.laws.forks_part_authors.Goals as goal

pub returns : goal.returns
returns c w es j k ys r apart honestly h only hy = none_above w es r (all_taken es) (λ c i. i) apart honestly j ys (held_list w es k ys r hy) h only
