use Rattle.su_engine_keeper.proofs.KeptLemmas.{one_record}
use Rattle.su_engine_keeper.proofs.laws.one_list.Goals as goal

pub returns : goal.returns
returns c = one_record
