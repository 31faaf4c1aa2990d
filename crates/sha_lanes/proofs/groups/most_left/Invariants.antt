-- No run so far has more steps left.
use Rattle.std.proofs.Common.{ℕ, ◌<◌, ◌≤◌}
use Rattle.sha_lanes.specs.Run.{run_at}
use Rattle.sha_lanes.proofs.groups.most_left.Given as goal

abbrev pub invariant-loop-run : goal.invariant-loop-run
invariant-loop-run l = (k : ℕ) → k < l.run-index → (run_at l.group k).left ≤ l.most
