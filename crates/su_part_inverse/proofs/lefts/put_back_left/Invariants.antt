use Rattle.std.proofs.Common.{◌≡◌, drop}
use Rattle.std.specs.List.{AllByRecursion}
use Rattle.su_table.specs.Tree.{Tree}
use Rattle.su_part_forest.specs.Forest.{Stands}
use Rattle.su_undone.specs.Undone.{written}
use Rattle.su_part_inverse.specs.Lefts.{LeftIsReady}
use Rattle.su_part_inverse.proofs.lefts.put_back_left.Given as goal

-- those that are still to be put back
abbrev pub invariant-loop-kept : goal.invariant-loop-kept
invariant-loop-kept l = (F T : Tree) → Stands l.fn.forest F → AllByRecursion (LeftIsReady F T l.fn.forest) l.left
    → (G : Tree) × Stands l.forest G
    × AllByRecursion (LeftIsReady G T l.forest) (drop l.kept-index l.left)
    × (written (drop l.kept-index l.left) G ≡ written l.left F)
