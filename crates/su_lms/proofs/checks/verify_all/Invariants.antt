-- The signatures of the groups before have their verdicts, and the others are as they were.
use Rattle.std.proofs.Common.{◌≡◌, ◌<◌, ◌≤◌, ◌*◌, ℕ, length, get_or}
use Rattle.su_lms.specs.Check.{IsChecked}
use Rattle.su_lms.specs.declared.checks.Check.{Check}
use Rattle.su_lms.proofs.checks.verify_all.Given as goal

abbrev pub invariant-loop-group : goal.invariant-loop-group
invariant-loop-group l = record {
  room : length l.runs ≡ 2120;
  each : (k : ℕ) (d : Check) → k < 8 * l.group → k < length l.fn.checks → IsChecked (get_or l.fn.checks k d) (get_or l.checks k d);
  others : (k : ℕ) (d : Check) → 8 * l.group ≤ k → get_or l.checks k d ≡ get_or l.fn.checks k d;
}
