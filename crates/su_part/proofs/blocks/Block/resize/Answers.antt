use Rattle.std.proofs.Common.{rules}
use Rattle.su_node.specs.InodeChange.{with_size}
use Rattle.su_part.proofs.blocks.Block.resize.Goals as goal

pub returns : goal.returns
unfolding with_size
returns c = search rules
