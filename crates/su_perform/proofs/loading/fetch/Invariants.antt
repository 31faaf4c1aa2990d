use Rattle.std.proofs.Common.{take}
use Rattle.std.specs.Prelude.{Ok}
use Rattle.su_table.specs.Tree.{Tree}
use Rattle.su_part.specs.Bytes.{NoneClash}
use Rattle.su_part_forest.specs.Forest.{Stands}
use Rattle.su_part_forest.specs.Loading.{HashedFor, LoadsForest}
use Rattle.su_perform.specs.Loaded.{HasAreas}
use Rattle.su_perform.proofs.loading.fetch.Given as goal

abbrev pub invariant-loop-area : goal.invariant-loop-area
invariant-loop-area g l = record {
  loads : LoadsForest {A = Unit {0}} g.S.BlockSource.may_give g.S.BlockSource.failed g.S.BlockSource.follows l.fn.forest l.forest l.fn.source l.source (Ok tt);
  has : (T : Tree) → Stands l.fn.forest T → NoneClash (HashedFor T) (g.S.BlockSource.may_give l.fn.source) → HasAreas T l.forest (take l.area-index l.areas);
}
