use Rattle.std.proofs.Common.{◌++◌}
use Rattle.su_fork.specs.Events.{all_taken}
use Rattle.su_fork.proofs.Runs.{held_list, with_shown, is_shown}
use Rattle.su_fork.proofs.Agreeing.{one_place}
use Rattle.su_fork.proofs.laws.commits_have_one_place.Goals as goal

pub returns : goal.returns
returns g w es k n xs ys c run apart legal hy e f =
    one_place w.roster (all_taken es ++ xs) apart xs ys (is_shown w.roster (all_taken es) xs legal) (with_shown w.roster (all_taken es) xs ys (held_list w es k ys run hy)) n c e f
