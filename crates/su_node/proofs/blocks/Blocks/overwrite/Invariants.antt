use Rattle.std.proofs.Common.{◌≡◌, ℕ, ◌≤◌, ◌-◌, ◌*◌, ◌/◌, length, take, min}
use Rattle.su_node.specs.InodeChange.{with_bytes_at}
use Rattle.su_node.specs.Cost.{IsSmall, hashes_of_blocks}
use Rattle.su_node.specs.Stored.{AreBlocksOf}
use Rattle.su_node.proofs.blocks.Blocks.overwrite.Given as goal

abbrev pub invariant-loop-number : goal.invariant-loop-number
invariant-loop-number l = (l.self-inside.size ≡ l._size)
    × AreBlocksOf l.self-inside.blocks (with_bytes_at l.off (take (min (length l.bytes) (4096 * l.number - l.off)) l.bytes) l.fn.self)
    × ((bits : ℕ) → IsSmall bits (length l.fn.self) → l.hashes ≤ hashes_of_blocks bits (l.number - l.off / 4096))
