use Rattle.su_engine_keeper.proofs.KeptLemmas.{begins}
use Rattle.su_engine_keeper.proofs.laws.begins_with_all.Goals as goal

pub returns : goal.returns
returns c = begins
