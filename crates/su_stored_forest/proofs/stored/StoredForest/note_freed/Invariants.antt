use Rattle.std.proofs.Common.{◌≡◌, take}
use Rattle.su_table.specs.Tree.{Tree}
use Rattle.su_stored_forest.specs.Freed.{KnowsTakenBeside}
use Rattle.su_stored_forest.specs.Shows.{KnowsTaken}
use Rattle.su_stored_forest.proofs.stored.StoredForest.note_freed.Given as goal

abbrev pub invariant-loop-area : goal.invariant-loop-area
invariant-loop-area g l =
    ((T : Tree) → KnowsTaken T l.fn.self → KnowsTakenBeside (take l.area-index l.areas) T l.self)
    × (l.self.forest ≡ l.fn.self.forest)
    × (l.self.source ≡ l.fn.self.source)
