use Rattle.std.proofs.Common.{rules}
use Rattle.su_engine_keeper.proofs.KeeperLemmas.{items_more}
use Rattle.su_engine_keeper.proofs.keys.item_pairs.Goals as goal

pub loop-item-preserved : goal.loop-item-preserved
loop-item-preserved c = search (rules, items_more)
