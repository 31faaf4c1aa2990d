use Rattle.std.proofs.Common.{rules}
use Rattle.su_engine_keeper.specs.Keys.{record_key}
use Rattle.su_engine_keeper.proofs.keys.record_key.Goals as goal

pub returns : goal.returns
unfolding record_key
returns c = search rules
