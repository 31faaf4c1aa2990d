use Rattle.std.proofs.Common.{length}
use Rattle.su_vector.proofs.vectors.+is_le.Given as goal

abbrev pub decreases-is_le : goal.decreases-is_le
decreases-is_le l = length l.numbers.now
