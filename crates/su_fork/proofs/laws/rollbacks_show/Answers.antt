use Rattle.std.proofs.Common.{◌++◌}
use Rattle.std.proofs.lemmas.List.Elements.{Contains-append_left}
use Rattle.su_fork.specs.Events.{all_taken}
use Rattle.su_fork.proofs.Runs.{is_shown}
use Rattle.su_fork.proofs.Noticed.{passed}
use Rattle.su_fork.proofs.laws.rollbacks_show.Goals as goal

pub returns : goal.returns
returns g w es k n ys shown last run apart honestly h only legal of_ys shows is =
    passed w es run (all_taken es ++ ys) (λ c i. Contains-append_left (all_taken es) ys c i) apart honestly k h only ys (is_shown w.roster (all_taken es) ys legal) shown last of_ys shows is
