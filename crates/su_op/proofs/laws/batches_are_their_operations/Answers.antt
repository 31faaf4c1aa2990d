use Rattle.su_op.proofs.ListLemmas.{lists_flat, lists_outside, lists_block}
use Rattle.su_op.proofs.laws.batches_are_their_operations.Goals as goal

pub returns-clause-replay : goal.returns-clause-replay
returns-clause-replay c = lists_flat

pub returns-clause-outside : goal.returns-clause-outside
returns-clause-outside c = lists_outside

pub returns-clause-blocks : goal.returns-clause-blocks
returns-clause-blocks c = lists_block
