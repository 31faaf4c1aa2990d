use Rattle.std.proofs.Common.{◌<◌, ◌≤◌, ℕ}
use Rattle.std.specs.Prelude.{IsSome}
use Rattle.su_part.specs.Bytes.{loaded_block}
use Rattle.su_part.proofs.blocks.PartBytes.has_bytes.Given as goal

abbrev pub invariant-loop-number : goal.invariant-loop-number
invariant-loop-number l = (n : ℕ) → l.first ≤ n → n < l.number → IsSome (loaded_block l.self n)
