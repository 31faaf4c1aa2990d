use Rattle.su_engine_keeper.specs.Machine.{begun}
use Rattle.su_engine_keeper.proofs.MachineLemmas.{told_from}
use Rattle.su_engine_keeper.proofs.laws.told_for_good.Goals as goal

pub returns : goal.returns
returns c = told_from begun
