use Rattle.std.proofs.Common.{List, ℕ}
use Rattle.su_node.specs.InodeChange.{with_bytes_at}
use Rattle.su_part.specs.Bytes.{HasAllBlocks, StandsBytes}
use Rattle.su_part.proofs.WriteLemmas.{Midway}
use Rattle.su_part.proofs.blocks.PartBytes.overwrite.Given as goal

abbrev pub invariant-loop-number : goal.invariant-loop-number
invariant-loop-number l = record {
  midway : (bs : List ℕ) → StandsBytes l.fn.self bs → Midway bs (with_bytes_at l.off l.bytes bs) l.number l.self;
  keeps : HasAllBlocks l.fn.self l.self;
}
