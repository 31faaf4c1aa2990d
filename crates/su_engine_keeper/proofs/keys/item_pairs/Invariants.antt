use Rattle.std.proofs.Common.{◌≡◌, map, take}
use Rattle.sha2.specs.Sha256.{sha256}
use Rattle.su_engine_keeper.specs.Keys.{item_key}
use Rattle.su_engine.specs.Pairs.{pairs_of}
use Rattle.su_engine_keeper.proofs.keys.item_pairs.Given as goal

abbrev pub invariant-loop-item : goal.invariant-loop-item
invariant-loop-item l = pairs_of l.pairs.items ≡ map (λ item. (item_key (sha256 item.items), item.items)) (take l.item-index l.items)
