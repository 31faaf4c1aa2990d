-- None of the signatures before has more chains.
use Rattle.std.proofs.Common.{◌≤◌, ◌<◌, ℕ, get_or}
use Rattle.su_lms.specs.ParameterSets.{chain_count}
use Rattle.su_lms.specs.Signature.{ots_of}
use Rattle.su_lms.specs.declared.checks.Check.{Check}
use Rattle.su_lms.proofs.checks.most_chains.Given as goal

abbrev pub invariant-loop-check : goal.invariant-loop-check
invariant-loop-check l = record {
  most : (k : ℕ) (d : Check) → k < l.check-index → chain_count (ots_of (get_or l.checks k d).key.now) ≤ l.most;
  range : l.most ≤ 265;
}
