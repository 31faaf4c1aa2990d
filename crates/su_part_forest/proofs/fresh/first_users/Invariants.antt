use Rattle.std.proofs.Common.{◌≡◌, ◌+◌, ℕ, length}
use Rattle.std.specs.Prelude.{slice_get, IfSome}
use Rattle.su_part_forest.proofs.FreshLemmas.{IsFirstUser}
use Rattle.su_part_forest.proofs.fresh.first_users.Given as goal

abbrev pub invariant-loop : goal.invariant-loop
invariant-loop l = (length l.users.items ≡ l.counter + 1) × ((u : ℕ) → IfSome (slice_get l.users.items u) (IsFirstUser u))
