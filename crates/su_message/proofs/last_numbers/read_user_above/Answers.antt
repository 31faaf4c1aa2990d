use Rattle.std.proofs.Common.{◌≡◌, ◌≤◌, true, refl, ap, arith}
use Rattle.su_bytes.specs.Principal.{is_user}
use Rattle.su_bytes.specs.declared.refusals.Refusal.TheVariants.{Malformed}
use Rattle.su_format.specs.Format.{part}
use Rattle.su_format.specs.Part.{u8_bytes, user_part}
use Rattle.su_format.proofs.Public.{missing_too, another, taken_as, user_lawful}
use Rattle.su_message.specs.LastNumbers.{user_above}
use Rattle.su_message.proofs.last_numbers.read_user_above.Goals as goal

pub returns-in_default : goal.returns-in_default
unfolding user_part user_above
returns-in_default c =
    let old = c.args.reader.now in
    missing_too (λ g. is_user g ≡ true) u8_bytes (λ g. (c.args.least ≤ g) × (is_user g ≡ true)) u8_bytes (λ g. g) (λ g is. (is.1, refl)) old c.take_user.new.self old c.in_default.field-0 _
    c.in_default.ensures.refused (ap Malformed c.place.ensures) c.in_default.ensures.takes

pub returns-then-number-least : goal.returns-then-number-least
unfolding user_part user_above
returns-then-number-least c =
    let old = c.args.reader.now in
    another (λ g. is_user g ≡ true) u8_bytes (λ g. (c.args.least ≤ g) × (is_user g ≡ true)) u8_bytes user_lawful (λ g. g) (λ g is. (is.1, refl)) old c.take_user.new.self old c.in-Ok.user _
    (ap Malformed c.place.ensures) c.in-Ok.ensures.takes (λ g is e. let low : c.args.least ≤ g = is.0 in omega (arith, c.number.ensures.value))

pub returns : goal.returns
unfolding user_part user_above part
returns c =
    taken_as (λ g. is_user g ≡ true) u8_bytes (λ g. (c.args.least ≤ g) × (is_user g ≡ true)) u8_bytes c.args.reader.now c.take_user.new.self c.in-Ok.user c.in-Ok.user
    c.in-Ok.ensures.takes (omega (arith, c.number.ensures.value), c.in-Ok.ensures.takes.spelled.0) refl
