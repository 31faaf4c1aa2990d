-- The leaves of the groups before stand at their places.
use Rattle.std.proofs.Common.{◌≡◌, ℕ, ◌<◌, ◌+◌, ◌*◌, [], length, get_or}
use Rattle.su_lms.specs.PrivateKey.{leaf_at, leaf_count}
use Rattle.su_lms.specs.KeyFile.{private_key_of}
use Rattle.su_lms.proofs.trees.set_leaves.Given as goal

abbrev pub invariant-loop-group : goal.invariant-loop-group
invariant-loop-group l =
    (k : ℕ) → k < 8 * l.group → k < length l.part → get_or l.part k [] ≡ leaf_at (private_key_of l.file) (leaf_count (private_key_of l.file) + l.q + k)
