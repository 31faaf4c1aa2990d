use Rattle.std.proofs.Common.{length}
use Rattle.su_vector.proofs.orders.+place_in.Given as goal

abbrev pub decreases-place_in : goal.decreases-place_in
decreases-place_in g l = length l.order.now
