use Rattle.std.proofs.Common.{◌<◌, ◌≤◌, ℕ}
use Rattle.su_part.specs.Bytes.{HasBlock}
use Rattle.su_part.proofs.blocks.PartBytes.has_blocks.Given as goal

abbrev pub invariant-loop-number : goal.invariant-loop-number
invariant-loop-number l = (n : ℕ) → l.first ≤ n → n < l.number → HasBlock n l.self
