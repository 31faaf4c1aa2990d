use Rattle.std.proofs.Common.{refl, arith}
use Rattle.su_lms.specs.Strings.{coef}
use Rattle.su_lms.proofs.Widths.{width_divides, coefficient_fits, width_times}
use Rattle.su_lms.proofs.digits.coef.Goals as goal

pub overflow_mul-byte : goal.overflow_mul-byte
overflow_mul-byte c = rw (c.width_of-width.ensures.value, c.from-index.ensures) (omega (arith, width_times c.args.ots c.requires.listed.0 c.requires.listed.1 c.args.i))

pub nonzero_rem-shift : goal.nonzero_rem-shift
nonzero_rem-shift c = rw c.width_of-width.ensures.value (width_divides c.args.ots c.requires.listed.0 c.requires.listed.1)

pub overflow_mul-shift : goal.overflow_mul-shift
overflow_mul-shift c = rw c.width_of-width.ensures.value (omega (arith, coefficient_fits c.args.ots c.requires.listed.0 c.requires.listed.1 c.from-index.result))

pub overflow_add-shift : goal.overflow_add-shift
overflow_add-shift c = rw c.width_of-width.ensures.value (omega (arith, coefficient_fits c.args.ots c.requires.listed.0 c.requires.listed.1 c.from-index.result))

pub overflow_sub-shift : goal.overflow_sub-shift
overflow_sub-shift c = rw c.width_of-width.ensures.value (coefficient_fits c.args.ots c.requires.listed.0 c.requires.listed.1 c.from-index.result)

pub returns-clause-value : goal.returns-clause-value
unfolding coef
returns-clause-value c = rw (c.width_of-width.ensures.value, c.from-index.ensures, c.step_count.ensures) refl
