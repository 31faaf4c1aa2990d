use Rattle.std.proofs.Common.{◌≡◌, [], drop}
use Rattle.su_table.specs.Tree.{Tree}
use Rattle.su_part_forest.specs.Forest.{Stands}
use Rattle.su_undone.specs.Undone.{reset}
use Rattle.su_part_inverse.specs.Kept.{runs}
use Rattle.su_part_inverse.specs.Ready.{AreReady}
use Rattle.su_part_inverse.proofs.inverses.Inverse.set.Given as goal

-- those that are still to be restored
abbrev pub invariant-loop-reset : goal.invariant-loop-reset
invariant-loop-reset l = (F T : Tree) → Stands l.fn.forest F → AreReady [] [] l.fn.self.resets.items (runs l.fn.self) F T l.fn.forest
    → (G : Tree) × Stands l.forest G
    × AreReady [] [] (drop l.reset-index l.fn.self.resets.items) (runs l.fn.self) G T l.forest
    × (reset (drop l.reset-index l.fn.self.resets.items) G ≡ reset l.fn.self.resets.items F)
