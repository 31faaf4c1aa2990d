use Rattle.std.proofs.Common.{◌≤◌, ◌-◌, Ok}
use Rattle.su_fronts.specs.Front.{AreTaken}
use Rattle.su_reading.specs.Reading.{Finds}
use Rattle.su_table.specs.Query.{is_free_at}
use Rattle.std.specs.Prelude.{not}
use Rattle.su_stored_forest.specs.Shows.{Shows, Fails, Follows}
use Rattle.su_stored_forest.proofs.stored.StoredForest.least_taken.Given as goal

abbrev pub invariant-loop-at : goal.invariant-loop-at
invariant-loop-at g l =
    Finds {A = Unit {0}} (Shows g.S.BlockSource.may_give) (Fails g.S.BlockSource.failed) (Follows g.S.BlockSource.may_give g.S.BlockSource.follows) l.fn.self l.self (Ok tt)
    (λ T x. AreTaken (λ i. not (is_free_at T (l.fn.user, i))) l.fn.from_ l.number)
    × (l.fn.from_ ≤ l.number)

abbrev pub decreases-loop-at : goal.decreases-loop-at
decreases-loop-at g l = 1000001 - l.number
