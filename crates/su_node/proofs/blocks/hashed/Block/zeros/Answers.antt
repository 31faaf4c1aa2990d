use Rattle.std.proofs.Common.{◌∙◌, ◌-◌, ◌++◌, take, replicate}
use Rattle.su_node.specs.InodeChange.{with_size}
use Rattle.su_node.proofs.blocks.hashed.Block.zeros.Goals as goal

pub returns : goal.returns
unfolding with_size
returns c = record { value = c.in_ok-resize.ensures.items ∙ (λ i. take c.args.size (c.in_ok-bytes.ensures.items i) ++ replicate (c.args.size - c.in_ok-bytes.ensures.len i) 0) }
