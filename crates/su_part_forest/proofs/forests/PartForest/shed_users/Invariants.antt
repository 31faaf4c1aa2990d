use Rattle.std.proofs.Common.{◌≡◌, ◌<◌, ℕ, length}
use Rattle.std.specs.Prelude.{IfSome, Ok}
use Rattle.su_part.specs.Sheds.{HasNothing}
use Rattle.su_part_forest.specs.Forest.{user_part}
use Rattle.su_part_forest.specs.Sheds.{ShedsForest}
use Rattle.su_part_forest.proofs.forests.PartForest.shed_users.Given as goal

abbrev pub invariant-loop-user : goal.invariant-loop-user
invariant-loop-user g l = record {
  sheds : ShedsForest {A = Unit {0}} g.S.BlockSource.may_give g.S.BlockSource.failed g.S.BlockSource.follows g.S.BlockSource.puts l.fn.self l.self l.fn.source l.source (Ok tt);
  none : (k : ℕ) → k < l.user → IfSome (user_part k l.self) HasNothing;
  count : length l.self.users.items ≡ length l.fn.self.users.items;
}
