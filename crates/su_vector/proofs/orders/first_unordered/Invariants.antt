use Rattle.std.proofs.Common.{ℕ, ◌<◌, map, length}
use Rattle.su_vector.specs.Order.{AreComparable}
use Rattle.su_vector.proofs.orders.first_unordered.Given as goal

abbrev pub invariant-loop-i : goal.invariant-loop-i
invariant-loop-i g l = (a b : ℕ) → a < l.i → a < b → b < length l.items → AreComparable (map g.T.HasVector.vector_of l.items) a b
