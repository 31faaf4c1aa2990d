use Rattle.std.proofs.Common.{◌≡◌, ◌<◌, ℕ, length}
use Rattle.std.specs.Prelude.{IfSome, Ok}
use Rattle.su_part_tree.specs.Part.{HasNone}
use Rattle.su_part_forest.specs.Forest.{group_part}
use Rattle.su_part_forest.specs.Sheds.{ShedsForest}
use Rattle.su_part_forest.proofs.forests.PartForest.shed_groups.Given as goal

abbrev pub invariant-loop-group : goal.invariant-loop-group
invariant-loop-group g l = record {
  sheds : ShedsForest {A = Unit {0}} g.S.BlockSource.may_give g.S.BlockSource.failed g.S.BlockSource.follows g.S.BlockSource.puts l.fn.self l.self l.fn.source l.source (Ok tt);
  none : (k : ℕ) → k < l.group → IfSome (group_part k l.self) (λ p. HasNone p.table);
  count : length l.self.groups.items ≡ length l.fn.self.groups.items;
  users : l.self.users.items ≡ l.fn.self.users.items;
}
