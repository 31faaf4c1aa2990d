use Rattle.su_fork.specs.Events.{all_taken}
use Rattle.su_fork.proofs.Runs.{held_list}
use Rattle.su_fork.proofs.Agreeing.{shared, shared_before}
use Rattle.su_fork.proofs.laws.views_agree.Goals as goal

pub returns : goal.returns
returns c = record {
  up_to = λ w es j k xs ys r apart hx hy. shared w.roster (all_taken es) apart xs ys (held_list w es j xs r hx) (held_list w es k ys r hy);
  before = λ w es j k xs ys r apart hx hy. shared_before w.roster (all_taken es) apart xs ys (held_list w es j xs r hx) (held_list w es k ys r hy);
}
