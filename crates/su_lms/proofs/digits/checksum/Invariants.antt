-- The sum has the coefficients before i.
use Rattle.std.proofs.Common.{◌≡◌, ◌≤◌, ◌*◌, ◌-◌, ◌^◌}
use Rattle.su_lms.specs.ParameterSets.{width_of}
use Rattle.su_lms.specs.Strings.{coef, sum_below}
use Rattle.su_lms.proofs.digits.checksum.Given as goal

abbrev pub invariant-loop-i : goal.invariant-loop-i
invariant-loop-i l = record {
  sum : l.sum ≡ sum_below l.i (λ i. 2 ^ width_of l.ots - 1 - coef l.hash i (width_of l.ots));
  small : l.sum ≤ l.i * 255;
}
