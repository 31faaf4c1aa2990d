use Rattle.std.proofs.Common.{◌≡◌, List, ℕ, ◌+◌, ◌*◌, ◌≤◌, length}
use Rattle.su_node.specs.InodeChange.{with_bytes_at}
use Rattle.su_part.specs.Bytes.{StandsBytes}
use Rattle.su_part.specs.Left.{AreDigests, LeavesBlocks}
use Rattle.su_part.proofs.WriteLemmas.{Midway}
use Rattle.su_part.proofs.blocks.PartBytes.put_left.Given as goal

abbrev pub invariant-loop-digest : goal.invariant-loop-digest
invariant-loop-digest l = record {
  at : l.number ≡ l.first + l.digest-index;
  midway : (bs xs : List ℕ) → StandsBytes l.fn.self bs → 4096 * l.first + length xs ≤ length bs → AreDigests l.first xs bs l.digests
      → Midway bs (with_bytes_at (4096 * l.first) xs bs) l.number l.self;
  leaves : LeavesBlocks l.first l.number l.fn.self l.self;
}
