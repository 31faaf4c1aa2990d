use Rattle.su_node.proofs.Contents.{no_blocks}
use Rattle.su_node.proofs.blocks.Blocks.new.Goals as goal

pub invariant_of-result : goal.invariant_of-result
invariant_of-result c = no_blocks _ c.new.ensures
