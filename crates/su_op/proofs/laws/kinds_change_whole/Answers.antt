use Rattle.su_op.proofs.SoundnessLemmas.{kind_written, kinds_new, block_written}
use Rattle.su_op.proofs.laws.kinds_change_whole.Goals as goal

pub returns-clause-kind : goal.returns-clause-kind
returns-clause-kind c = kind_written

pub returns-clause-block : goal.returns-clause-block
returns-clause-block c = block_written

pub returns-clause-new : goal.returns-clause-new
returns-clause-new c = kinds_new
