use Rattle.std.proofs.Common.{ℕ, IsTrue, List}
use Rattle.std.specs.Prelude.{IsSome}
use Rattle.su_tree.specs.Number.{number_bits}
use Rattle.su_part_tree.specs.Part.{reaches}
use Rattle.su_node.specs.InodeChange.{with_bytes_at}
use Rattle.su_part.specs.Bytes.{StandsBytes, loaded_block}
use Rattle.su_part.proofs.WriteLemmas.{Writing}
use Rattle.su_part.proofs.blocks.PartBytes.write_at.Given as goal

abbrev pub invariant-loop-number : goal.invariant-loop-number
invariant-loop-number l = record {
  writing : (bs : List ℕ) → StandsBytes l.fn.self bs → Writing bs (with_bytes_at l.off l.bytes bs) l.number l.until l.self l.ready.entries;
  paths : (n : ℕ) → IsTrue (reaches number_bits n l.initial.self.digests) → IsTrue (reaches number_bits n l.self.digests);
  loaded : (n : ℕ) → IsSome (loaded_block l.initial.self n) → IsSome (loaded_block l.self n);
}
