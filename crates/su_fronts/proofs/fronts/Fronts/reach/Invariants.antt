use Rattle.std.proofs.Common.{ℕ, Bool}
use Rattle.su_fronts.specs.Front.{AreFronts}
use Rattle.su_fronts.proofs.fronts.Fronts.reach.Given as goal

abbrev pub invariant-loop : goal.invariant-loop
invariant-loop l = (free : ℕ → Bool) → AreFronts free l.fn.self → AreFronts free l.self
