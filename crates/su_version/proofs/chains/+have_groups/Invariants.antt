use Rattle.std.proofs.Common.{length}
use Rattle.su_version.proofs.chains.+have_groups.Given as goal

abbrev pub decreases-have_groups : goal.decreases-have_groups
decreases-have_groups l = length l.groups.now
