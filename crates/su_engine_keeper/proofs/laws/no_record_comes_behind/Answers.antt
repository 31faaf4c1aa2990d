use Rattle.su_engine_keeper.proofs.KeptLemmas.{nothing_behind}
use Rattle.su_engine_keeper.proofs.laws.no_record_comes_behind.Goals as goal

pub returns : goal.returns
returns c = λ before after token ended run by keeps. nothing_behind before after ended run token by keeps
