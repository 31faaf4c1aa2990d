use Rattle.std.proofs.Common.{◌≡◌, ◌≤◌, ◌-◌, length, max}
use Rattle.su_node.specs.Stored.{AreZeroBlocks}
use Rattle.su_node.proofs.blocks.zero_blocks.Given as goal

abbrev pub invariant-loop-number : goal.invariant-loop-number
invariant-loop-number l = (l.number ≤ max l.first l.number-end) × (length l.added.items ≡ l.number - l.first) × AreZeroBlocks l.added.items l.first l.size
