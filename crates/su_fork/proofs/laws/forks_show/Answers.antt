use Rattle.std.proofs.Common.{◌++◌}
use Rattle.std.proofs.lemmas.List.Elements.{Contains-append_left}
use Rattle.su_fork.specs.Events.{all_taken}
use Rattle.su_fork.proofs.Runs.{is_shown}
use Rattle.su_fork.proofs.Noticed.{not_above, none_comparable}
use Rattle.su_fork.proofs.laws.forks_show.Goals as goal

pub returns : goal.returns
returns c = record {
  above = λ w es k n ys run apart honestly h only legal fork other.
      not_above w es run (all_taken es ++ ys) (λ c i. Contains-append_left (all_taken es) ys c i) apart honestly k h only ys (is_shown w.roster (all_taken es) ys legal) n fork other;
  unordered = none_comparable;
}
