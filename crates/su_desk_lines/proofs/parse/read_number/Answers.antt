use Rattle.std.proofs.Common.{◌∙◌, ◌<◌, sym, ap, ◌+◌, ◌*◌, ◌^◌, arith, refl}
use Rattle.std.specs.Char.{is_ascii_digit}
use Rattle.std.specs.List.{list_all}
use Rattle.std.specs.Str.Parse.{digits_value_after}
use Rattle.std.proofs.lemmas.Bool.Decides.{nat_tests}
use Rattle.std.proofs.lemmas.List.{take_all, drop_all}
use Rattle.su_desk_lines.proofs.Numbers.{read_number-no_room, read_number-digits, digit_value-digit}
use Rattle.su_desk_lines.proofs.parse.read_number.Goals as goal

pub returns-in_err-checked_mul : goal.returns-in_err-checked_mul
returns-in_err-checked_mul c =
    let no_room = read_number-no_room c.args.word.now c.loop-byte.value c.loop-byte.byte-index _ c.loop-byte-test.true c.loop-byte.invariant.1 refl (let full : c.loop-byte.value * 10 < 2 ^ 64 → ⊥ = λ h. c.in_err-checked_mul.ensures h in omega arith) in
    c.from_residual.ensures ∙ sym no_room

pub returns-in_err-value : goal.returns-in_err-value
returns-in_err-value c =
    let no_room = read_number-no_room c.args.word.now c.loop-byte.value c.loop-byte.byte-index c.from.result c.loop-byte-test.true c.loop-byte.invariant.1 (digit_value-digit _ c.if-not-is_ascii_digit.ensures.cases.0 c.if-not-is_ascii_digit.ensures.cases.1 ∙ sym c.from.ensures) (let full : c.loop-byte.value * 10 + c.from.result < 2 ^ 64 → ⊥ = λ h. c.in_err-value.ensures (omega arith) in omega arith) in
    c.from_residual-in_err-value.ensures ∙ sym no_room

pub returns : goal.returns
returns c =
    let whole = take_all c.loop-byte.byte-index c.args.word.now c.loop-byte-test.false in
    let none = drop_all c.loop-byte.byte-index c.args.word.now c.loop-byte-test.false in
    sym (read_number-digits c.args.word.now c.loop-byte.value (grind (arith, nat_tests)) c.if-word-gt-MOST_DIGITS.false (sym (ap (list_all is_ascii_digit) whole) ∙ c.loop-byte.invariant.0)
    (sym c.loop-byte.invariant.1 ∙ ap (digits_value_after 10 c.loop-byte.value) none) c.loop-byte.invariant.2)
