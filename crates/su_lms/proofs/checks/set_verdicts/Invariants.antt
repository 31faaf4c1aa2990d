-- The signatures before have their verdicts, and those from k on are as they were.
use Rattle.std.proofs.Common.{◌≡◌, ◌<◌, ◌≤◌, ℕ, get_or}
use Rattle.su_lms.specs.Check.{IsChecked}
use Rattle.su_lms.specs.declared.checks.Check.{Check}
use Rattle.su_lms.proofs.checks.set_verdicts.Given as goal

abbrev pub invariant-loop-k : goal.invariant-loop-k
invariant-loop-k l = record {
  each : (j : ℕ) (d : Check) → j < l.k → IsChecked (get_or l.fn.checks j d) (get_or l.checks j d);
  others : (j : ℕ) (d : Check) → l.k ≤ j → get_or l.checks j d ≡ get_or l.fn.checks j d;
}
