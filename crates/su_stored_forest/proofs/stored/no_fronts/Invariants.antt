use Rattle.std.proofs.Common.{ℕ, Bool}
use Rattle.std.specs.Prelude.{IfSome, slice_get}
use Rattle.su_fronts.specs.Front.{AreFronts}
use Rattle.su_stored_forest.proofs.stored.no_fronts.Given as goal

abbrev pub invariant-loop : goal.invariant-loop
invariant-loop l = (n : ℕ) (free : ℕ → Bool) → IfSome (slice_get l.fronts.items n) (AreFronts free)
