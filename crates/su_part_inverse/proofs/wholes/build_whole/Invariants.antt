use Rattle.std.proofs.Common.{◌≡◌, true, map, take}
use Rattle.std.specs.List.{All}
use Rattle.su_op.specs.Area.{has}
use Rattle.su_table.specs.Cell.{Cell}
use Rattle.su_table.specs.Tree.{Tree}
use Rattle.su_part_forest.specs.Forest.{Stands}
use Rattle.su_inverse.specs.Kept.{CanKeep}
use Rattle.su_inverse.specs.Whole.{made_whole}
use Rattle.su_part_inverse.proofs.wholes.build_whole.Given as goal

abbrev pub invariant-loop-area : goal.invariant-loop-area
invariant-loop-area l = record {
  covers : (c : Cell) → has (take l.area-index l.areas) c ≡ true → has l.wider.items c ≡ true;
  can_keep : (T : Tree) → Stands l.forest T → All (CanKeep T) l.wider.items;
  made : (T : Tree) → Stands l.forest T → l.wider.items ≡ map (made_whole T) (take l.area-index l.areas);
}
