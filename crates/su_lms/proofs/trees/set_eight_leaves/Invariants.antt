-- The leaves before the one behind leaf q by l stand at their places.
use Rattle.std.proofs.Common.{◌≡◌, ℕ, ◌<◌, ◌+◌, [], get_or}
use Rattle.su_lms.specs.PrivateKey.{leaf_at, leaf_count}
use Rattle.su_lms.specs.KeyFile.{private_key_of}
use Rattle.su_lms.proofs.trees.set_eight_leaves.Given as goal

abbrev pub invariant-loop-l : goal.invariant-loop-l
invariant-loop-l l =
    (k : ℕ) → k < l.l → get_or l.part k [] ≡ leaf_at (private_key_of l.file) (leaf_count (private_key_of l.file) + l.q + k)
