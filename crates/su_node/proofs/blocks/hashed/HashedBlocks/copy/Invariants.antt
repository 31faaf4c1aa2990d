use Rattle.std.proofs.Common.{◌≡◌, take}
use Rattle.su_node.proofs.blocks.hashed.HashedBlocks.copy.Given as goal

abbrev pub invariant-loop-block : goal.invariant-loop-block
invariant-loop-block l = l.blocks.items ≡ take l.block-index l.block-items
