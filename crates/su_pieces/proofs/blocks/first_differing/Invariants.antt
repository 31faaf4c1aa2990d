use Rattle.std.proofs.Common.{◌≡◌, ◌<◌, ◌≤◌, ℕ, false}
use Rattle.su_pieces.specs.Piece.{differs}
use Rattle.su_pieces.proofs.blocks.first_differing.Given as goal

abbrev pub invariant-loop-number : goal.invariant-loop-number
invariant-loop-number l = (n : ℕ) → l.from_ ≤ n → n < l.number → differs l.old l.new n ≡ false
