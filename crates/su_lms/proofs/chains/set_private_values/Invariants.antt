-- The chains before place k stand at SEED.
use Rattle.std.proofs.Common.{◌≡◌, ◌+◌, ◌/◌, ◌%◌, ◌<◌, ℕ, length}
use Rattle.sha_lanes.specs.Run.{run_at}
use Rattle.su_lms.proofs.ChainRuns.{AtSeed}
use Rattle.su_lms.proofs.chains.set_private_values.Given as goal

abbrev pub invariant-loop-k : goal.invariant-loop-k
invariant-loop-k l = record {
  size : length l.runs ≡ length l.fn.runs;
  each : (j : ℕ) → j < l.k → AtSeed l.id l.seed (l.q + j / l.count) (j % l.count) (run_at l.runs j);
}
