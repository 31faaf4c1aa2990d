use Rattle.std.proofs.Common.{◌≡◌, [], drop}
use Rattle.su_table.specs.Tree.{Tree}
use Rattle.su_part_forest.specs.Forest.{Stands}
use Rattle.su_undone.specs.Undone.{cut}
use Rattle.su_part_inverse.specs.Kept.{runs}
use Rattle.su_part_inverse.specs.Ready.{AreReady, IsReady}
use Rattle.su_part_inverse.proofs.inverses.Inverse.finish.Given as goal

-- the sizes that are still to be cut
abbrev pub invariant-loop-kept : goal.invariant-loop-kept
invariant-loop-kept l = (F T : Tree) → Stands l.fn.forest F → IsReady [] l.fn.self F T l.fn.forest
    → (G : Tree) × Stands l.forest G
    × AreReady [] (drop l.kept-index l.fn.self.sizes.items) l.fn.self.resets.items (runs l.fn.self) G T l.forest
    × (cut (drop l.kept-index l.fn.self.sizes.items) G ≡ cut l.fn.self.sizes.items F)
