use Rattle.std.proofs.Common.{◌≡◌, None, take}
use Rattle.std.specs.List.{All}
use Rattle.su_table.specs.Cell.{Cell}
use Rattle.su_table.specs.Tree.{Tree}
use Rattle.su_op.specs.Area.{has}
use Rattle.su_part_forest.specs.Forest.{Stands}
use Rattle.su_inverse.specs.Kept.{CanKeep}
use Rattle.su_part_inverse.specs.Kept.{inverse_areas, IsKeptOf}
use Rattle.su_part_inverse.proofs.inverses.build.Given as goal

abbrev pub invariant-loop-area : goal.invariant-loop-area
invariant-loop-area l = record {
  areas : (c : Cell) → has (inverse_areas l.inverse) c ≡ has (take l.area-index l.areas) c;
  kept : (T : Tree) → Stands l.forest T → All (CanKeep T) l.areas → IsKeptOf l.inverse T;
  at_hand : l.inverse.left ≡ None;
}
