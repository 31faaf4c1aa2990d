use Rattle.std.proofs.Common.{◌≡◌, ℕ, ◌+◌, ◌/◌, ◌-◌, ◌^◌, ap, sym, ◌∙◌, arith}
use Rattle.su_lms.specs.ParameterSets.{width_of}
use Rattle.su_lms.specs.Strings.{coef, sum_below}
use Rattle.su_lms.proofs.Joining.{sum_below_none, sum_below_more}
use Rattle.su_lms.proofs.Widths.{checksum_shifted}
use Rattle.su_lms.proofs.digits.checksum.Goals as goal

pub loop-i-init : goal.loop-i-init
loop-i-init c = record { sum = sym (sum_below_none _); small = omega arith }

pub loop-i-preserved : goal.loop-i-preserved
loop-i-preserved c =
    let number : ℕ → ℕ = λ i. 2 ^ width_of c.args.ots - 1 - coef c.args.hash.now i (width_of c.args.ots) in
    let term : c.from-sum.result ≡ number c.loop-i.i =
    c.from-sum.ensures ∙ ap (λ n. n - c.coef.result) c.step_count-last.ensures ∙ ap (λ n. 2 ^ width_of c.args.ots - 1 - n) c.coef.ensures.value in
    record {
      sum = ap (λ n. n + c.from-sum.result) c.loop-i.invariant.sum ∙ ap (λ n. sum_below c.loop-i.i number + n) term
          ∙ sym (sum_below_more c.loop-i.i number);
      small = omega arith;
    }

pub overflow_cast-result : goal.overflow_cast-result
overflow_cast-result c =
    let end : c.loop-i.i ≡ 256 / c.width_of-count.result = omega arith in
    let shifted = checksum_shifted c.args.ots c.args.hash.now c.requires.0 c.requires.1 c.loop-i.i c.loop-i.sum c.checksum_shift.result
    (end ∙ ap (λ w. 256 / w) c.width_of-count.ensures.value) c.loop-i.invariant.sum c.checksum_shift.ensures.value in
    omega (arith, shifted)

pub returns : goal.returns
returns c =
    let end : c.loop-i.i ≡ 256 / c.width_of-count.result = omega arith in
    let shifted = checksum_shifted c.args.ots c.args.hash.now c.requires.0 c.requires.1 c.loop-i.i c.loop-i.sum c.checksum_shift.result
    (end ∙ ap (λ w. 256 / w) c.width_of-count.ensures.value) c.loop-i.invariant.sum c.checksum_shift.ensures.value in
    omega (arith, shifted)
