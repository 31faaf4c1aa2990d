use Rattle.std.proofs.Common.{rules}
use Rattle.su_engine_keeper.specs.Keys.{item_key}
use Rattle.su_engine_keeper.proofs.keys.item_key.Goals as goal

pub returns : goal.returns
unfolding item_key
returns c = search rules
