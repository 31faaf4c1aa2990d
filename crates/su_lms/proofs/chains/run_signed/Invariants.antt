-- The chains before chain i go from their beginning, and the others are as they were.
use Rattle.std.proofs.Common.{◌≡◌, ◌<◌, ◌≤◌, ℕ, length}
use Rattle.sha_lanes.specs.Run.{end_of, run_at}
use Rattle.su_lms.specs.ParameterSets.{width_of}
use Rattle.su_lms.specs.Strings.{coef}
use Rattle.su_lms.specs.Runs.{value_after}
use Rattle.su_lms.proofs.chains.run_signed.Given as goal

abbrev pub invariant-loop-i : goal.invariant-loop-i
invariant-loop-i l = record {
  size : length l.runs ≡ length l.fn.runs;
  each : (j : ℕ) → j < l.i → end_of (run_at l.runs j) ≡ value_after (run_at l.fn.runs j) (coef l.digits j (width_of l.ots));
  others : (j : ℕ) → l.i ≤ j → run_at l.runs j ≡ run_at l.fn.runs j;
}
