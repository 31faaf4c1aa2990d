use Rattle.su_engine_keeper.proofs.MachineLemmas.{leader_adds}
use Rattle.su_engine_keeper.proofs.laws.only_the_leader_adds.Goals as goal

pub returns : goal.returns
returns c = leader_adds
