-- The chains before place k go from their beginning, and the others are as they were.
use Rattle.std.proofs.Common.{◌≡◌, ◌<◌, ◌≤◌, ℕ, length}
use Rattle.sha_lanes.specs.Run.{end_of, run_at}
use Rattle.su_lms.specs.Runs.{value_after}
use Rattle.su_lms.proofs.chains.run_whole.Given as goal

abbrev pub invariant-loop-k : goal.invariant-loop-k
invariant-loop-k l = record {
  size : length l.runs ≡ length l.fn.runs;
  each : (j : ℕ) → j < l.k → end_of (run_at l.runs j) ≡ value_after (run_at l.fn.runs j) l.last;
  others : (j : ℕ) → l.k ≤ j → run_at l.runs j ≡ run_at l.fn.runs j;
}
