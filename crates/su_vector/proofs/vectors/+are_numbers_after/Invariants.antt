use Rattle.std.proofs.Common.{length}
use Rattle.su_vector.proofs.vectors.+are_numbers_after.Given as goal

abbrev pub decreases-are_numbers_after : goal.decreases-are_numbers_after
decreases-are_numbers_after l = length l.principals.now
