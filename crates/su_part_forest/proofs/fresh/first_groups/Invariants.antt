use Rattle.std.proofs.Common.{◌≡◌, ◌+◌, ℕ, length}
use Rattle.std.specs.Prelude.{slice_get, IfSome}
use Rattle.su_part_forest.proofs.FreshLemmas.{IsFirstGroup}
use Rattle.su_part_forest.proofs.fresh.first_groups.Given as goal

abbrev pub invariant-loop : goal.invariant-loop
invariant-loop l = (length l.groups.items ≡ l.counter + 1) × ((g : ℕ) → IfSome (slice_get l.groups.items g) (IsFirstGroup g))
