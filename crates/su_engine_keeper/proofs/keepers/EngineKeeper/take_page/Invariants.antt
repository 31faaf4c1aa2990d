use Rattle.std.proofs.Common.{◌≡◌, ◌+◌, [], length}
use Rattle.su_engine_keeper.proofs.KeeperLemmas.{IsOfPage}
use Rattle.su_engine_keeper.proofs.keepers.EngineKeeper.take_page.Given as goal

abbrev pub invariant-loop-pair : goal.invariant-loop-pair
invariant-loop-pair g l = record {
  engine : l.self.engine ≡ l.fn.self.engine;
  count : l.self.count ≡ l.fn.self.count;
  halted : l.self.is_halted ≡ l.fn.self.is_halted;
  number : l.number ≡ l.fn.self.count + l.pair-index;
  long : l.fn.self.found.items ≡ [] → length l.self.found.items ≡ l.pair-index;
  of_page : l.fn.self.found.items ≡ [] → IsOfPage l.pairs l.fn.self.count l.self.found.items;
}
