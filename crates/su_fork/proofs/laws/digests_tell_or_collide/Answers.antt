use Rattle.su_fork.specs.Premises.{hashed}
use Rattle.su_fork.proofs.Relating.{none_or_collision}
use Rattle.su_fork.proofs.laws.digests_tell_or_collide.Goals as goal

pub returns : goal.returns
returns c ro cs = none_or_collision (hashed ro cs)
