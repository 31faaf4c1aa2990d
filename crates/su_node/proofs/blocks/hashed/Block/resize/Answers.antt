use Rattle.std.proofs.Common.{rules}
use Rattle.su_node.specs.InodeChange.{with_size}
use Rattle.su_node.proofs.blocks.hashed.Block.resize.Goals as goal

pub returns-clause-ok : goal.returns-clause-ok
unfolding with_size
returns-clause-ok c = search rules
