use Rattle.std.proofs.Common.{length}
use Rattle.su_vector.proofs.vectors.+push_numbers_after.Given as goal

abbrev pub decreases-push_numbers_after : goal.decreases-push_numbers_after
decreases-push_numbers_after l = length l.principals.now
