use Rattle.std.proofs.Common.{◌≡◌, [], drop}
use Rattle.su_table.specs.Tree.{Tree}
use Rattle.su_part_forest.specs.Forest.{Stands}
use Rattle.su_undone.specs.Undone.{written}
use Rattle.su_part_inverse.specs.Ready.{AreReady}
use Rattle.su_part_inverse.proofs.inverses.Inverse.write.Given as goal

-- those that are still to be restored
abbrev pub invariant-loop-kept : goal.invariant-loop-kept
invariant-loop-kept l = (F T : Tree) → Stands l.fn.forest F → AreReady [] [] [] l.fn.self.blocks.items F T l.fn.forest
    → (G : Tree) × Stands l.forest G
    × AreReady [] [] [] (drop l.kept-index l.fn.self.blocks.items) G T l.forest
    × (written (drop l.kept-index l.fn.self.blocks.items) G ≡ written l.fn.self.blocks.items F)
