use Rattle.std.proofs.Common.{length}
use Rattle.su_version.proofs.chains.+has_group.Given as goal

abbrev pub decreases-has_group : goal.decreases-has_group
decreases-has_group l = length l.principals.now
