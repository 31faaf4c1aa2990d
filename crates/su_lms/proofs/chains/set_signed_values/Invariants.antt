-- The chains before chain i stand at the signature's values.
use Rattle.std.proofs.Common.{◌≡◌, ◌<◌, ℕ, length}
use Rattle.sha_lanes.specs.Run.{end_of, run_at}
use Rattle.su_lms.specs.OneTime.{end_from}
use Rattle.su_lms.specs.Signature.{chain_value_of, leaf_of}
use Rattle.su_lms.proofs.chains.set_signed_values.Given as goal

abbrev pub invariant-loop-i : goal.invariant-loop-i
invariant-loop-i l = record {
  size : length l.runs ≡ length l.fn.runs;
  each : (j : ℕ) → j < l.i → end_of (run_at l.runs j) ≡ end_from l.ots l.id (leaf_of l.signature) l.digits j (chain_value_of l.signature j);
}
