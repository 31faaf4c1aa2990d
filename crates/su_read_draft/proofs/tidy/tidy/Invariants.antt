use Rattle.std.proofs.Common.{◌≤◌, ◌-◌, Ok}
use Rattle.su_draft.proofs.StaleBodies.{AreAll}
use Rattle.su_reading.specs.Reading.{Finds}
use Rattle.su_read_draft.proofs.tidy.tidy.Given as goal

abbrev pub invariant-loop-drops : goal.invariant-loop-drops
invariant-loop-drops g l =
    Finds {A = Unit {0}} g.R.TreeReader.shows g.R.TreeReader.fails g.R.TreeReader.follows l.fn.reader l.reader (Ok tt) (λ T x. AreAll T l.author l.drops.items l.from_)
    × (1 ≤ l.from_) × (l.from_ ≤ 1000001)

abbrev pub decreases-loop-drops : goal.decreases-loop-drops
decreases-loop-drops g l = 1000001 - l.from_
