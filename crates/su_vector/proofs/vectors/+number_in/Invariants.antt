use Rattle.std.proofs.Common.{length}
use Rattle.su_vector.proofs.vectors.+number_in.Given as goal

abbrev pub decreases-number_in : goal.decreases-number_in
decreases-number_in l = length l.users.now
