-- Each run is as it was or has ended, and those that the group has put back have ended.
use Rattle.std.proofs.Common.{◌≡◌, ◌⊎◌, ◌<◌, ◌+◌, ℕ, length}
use Rattle.sha_lanes.specs.Run.{HasRun, place_in, run_at}
use Rattle.sha_lanes.proofs.orders.run_group.Given as goal

abbrev pub invariant-loop-l : goal.invariant-loop-l
invariant-loop-l l = record {
  size : length l.runs ≡ length l.fn.runs;
  on : (k : ℕ) → (run_at l.runs k ≡ run_at l.fn.runs k) ⊎ HasRun (run_at l.fn.runs k) (run_at l.runs k);
  ended : (k : ℕ) → k < l.l → (run_at l.runs (place_in l.order (l.first + k))).left ≡ 0;
}
