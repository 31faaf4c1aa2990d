use Rattle.std.proofs.Common.{map}
use Rattle.su_vector.proofs.Ordering.{IsOrderOfFirst}
use Rattle.su_vector.proofs.orders.order_of.Given as goal

abbrev pub invariant-loop-position : goal.invariant-loop-position
invariant-loop-position g l = IsOrderOfFirst (map g.T.HasVector.vector_of l.items) l.position l.order.items
