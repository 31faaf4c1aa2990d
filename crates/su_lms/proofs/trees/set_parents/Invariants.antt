-- The inner nodes from r on stand at their places, and the leaves are as they were.
use Rattle.std.proofs.Common.{◌≡◌, ℕ, ◌≤◌, ◌<◌, ◌+◌, ◌*◌, [], length, get_or}
use Rattle.su_lms.specs.MerkleTree.{inner_value}
use Rattle.su_lms.proofs.trees.set_parents.Given as goal

abbrev pub invariant-loop-r : goal.invariant-loop-r
invariant-loop-r l = record {
  size : length l.nodes ≡ 2 * l.leaves;
  within : l.r ≤ l.leaves;
  leaves : (s : ℕ) → l.leaves ≤ s → get_or l.nodes s [] ≡ get_or l.fn.nodes s [];
  inner : (s : ℕ) → l.r ≤ s → 1 ≤ s → s < l.leaves → get_or l.nodes s [] ≡ inner_value l.id s (get_or l.nodes (2 * s) []) (get_or l.nodes (2 * s + 1) []);
}

abbrev pub decreases-loop-r : goal.decreases-loop-r
decreases-loop-r l = l.r
