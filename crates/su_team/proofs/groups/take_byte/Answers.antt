use Rattle.std.proofs.Common.{ap, length, arith}
use Rattle.su_team.proofs.GroupLemmas.{at_none, first_two, same_digits, two_digits}
use Rattle.su_team.proofs.groups.take_byte.Goals as goal

pub returns-in_default : goal.returns-in_default
returns-in_default c byte rest is shown =
    let digits = c.in_ok-skip_blank.field-0.now in
    let same = same_digits c.args.place c.args.text.now digits rest byte c.in_ok-skip_blank.ensures shown in
    let two = two_digits byte rest in
    let long = ap length same in
    omega (arith, two, long)

pub returns-in_err-byte : goal.returns-in_err-byte
returns-in_err-byte c =
    let digits = c.in_ok-skip_blank.field-0.now in
    at_none c.from_residual-in_err-byte.result _ _ c.from_residual-in_err-byte.ensures (λ byte rest is shown.
    c.in_err-byte.ensures byte is (first_two digits rest byte (same_digits c.args.place c.args.text.now digits rest byte c.in_ok-skip_blank.ensures shown)))
