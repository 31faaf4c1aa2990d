use Rattle.std.proofs.Common.{ℕ, ◌<◌, map}
use Rattle.su_vector.specs.Order.{AreComparable}
use Rattle.su_vector.proofs.orders.first_not_comparable.Given as goal

abbrev pub invariant-loop-j : goal.invariant-loop-j
invariant-loop-j g l = (b : ℕ) → l.i < b → b < l.j → AreComparable (map g.T.HasVector.vector_of l.items) l.i b
