-- The chains of the signatures before stand at their values.
use Rattle.std.proofs.Common.{◌<◌, ◌+◌, ◌*◌, ℕ, get_or}
use Rattle.sha_lanes.specs.Run.{end_of, run_at}
use Rattle.su_lms.specs.Check.{EndsSo}
use Rattle.su_lms.specs.declared.checks.Check.{Check}
use Rattle.su_lms.proofs.checks.set_all_chains.Given as goal

abbrev pub invariant-loop-k : goal.invariant-loop-k
invariant-loop-k l =
    (j : ℕ) (d : Check) → j < l.k → EndsSo (get_or l.checks j d) (λ i. end_of (run_at l.runs (j * l.stride + i)))
