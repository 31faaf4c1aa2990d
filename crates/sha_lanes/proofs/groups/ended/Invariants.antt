-- The runs before l have ended.
use Rattle.std.proofs.Common.{◌≡◌, ℕ, ◌<◌, length}
use Rattle.sha_lanes.specs.Run.{HasRun, run_at}
use Rattle.sha_lanes.proofs.groups.ended.Given as goal

abbrev pub invariant-loop-l : goal.invariant-loop-l
invariant-loop-l l = record {
  size : length l.ended ≡ 8;
  each : (k : ℕ) → k < l.l → HasRun (run_at l.group k) (run_at l.ended k);
}
