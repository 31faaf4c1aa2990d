-- for now
use Rattle.std.proofs.Common.{List, [], ◌∷◌, ◌++◌}
use Rattle.su_table.specs.Tree.{Tree}
use Rattle.su_op.specs.declared.areas.Area.{Area}
use Rattle.su_part_forest.specs.declared.forests.PartForest.{PartForest}
use Rattle.su_perform.specs.Loaded.{HasAreas}

pub areas_left : (f : PartForest) (T : Tree) (u w : List Area) → HasAreas T f (u ++ w) → HasAreas T f u
areas_left f T [] w has = tt
areas_left f T (a ∷ u) w (has, rest) = (has, areas_left f T u w rest)

pub areas_right : (f : PartForest) (T : Tree) (u w : List Area) → HasAreas T f (u ++ w) → HasAreas T f w
areas_right f T [] w has = has
areas_right f T (a ∷ u) w (has, rest) = areas_right f T u w rest
