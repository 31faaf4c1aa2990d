use Rattle.std.proofs.Common.{◌≡◌, ◌<◌, ◌≤◌, ℕ, true}
use Rattle.su_pieces.specs.Piece.{differs}
use Rattle.su_pieces.proofs.blocks.end_of_run.Given as goal

abbrev pub invariant-loop-number : goal.invariant-loop-number
invariant-loop-number l = (n : ℕ) → l.first ≤ n → n < l.number → differs l.old l.new n ≡ true
