use Rattle.std.proofs.Common.{List, ℕ, ◌≤◌}
use Rattle.su_part.specs.InPlace.{HasJust, KeepsBelow}
use Rattle.su_part.proofs.blocks.PartBytes.take_blocks.Given as goal

abbrev pub invariant-loop-number : goal.invariant-loop-number
invariant-loop-number l = record {
  low : l.first ≤ l.number;
  high : l.number ≤ l.until;
  just : (f : ℕ → List ℕ) → HasJust f l.until l.fn.self → HasJust f l.number l.self;
  keeps : (f : ℕ → List ℕ) → HasJust f l.until l.fn.self → KeepsBelow l.number l.fn.self l.self;
}

abbrev pub decreases-loop-number : goal.decreases-loop-number
decreases-loop-number l = l.number
