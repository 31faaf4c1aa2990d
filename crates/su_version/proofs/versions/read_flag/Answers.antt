use Rattle.std.proofs.Common.{◌≡◌, ◌<◌, ℕ, Bool, true, false, refl, ap, sym, ◌∙◌, arith}
use Rattle.su_bytes.specs.declared.refusals.Refusal.TheVariants.{Malformed}
use Rattle.su_format.specs.Part.{u8_bytes, u8_part}
use Rattle.su_format.proofs.Public.{missing_too, another, taken_as, u8_lawful}
use Rattle.su_version.specs.Version.{AnyFlag, flag_bytes, flag_part}
use Rattle.su_version.proofs.versions.read_flag.Goals as goal

abbrev number : Bool → ℕ
number false = 0
number true = 1

is_byte : (f : Bool) → AnyFlag f → (number f < 256) × (u8_bytes (number f) ≡ flag_bytes f)
is_byte false _ = (omega arith, refl)
is_byte true _ = (omega arith, refl)

pub returns-in_default : goal.returns-in_default
unfolding u8_part flag_part
returns-in_default c =
    let old = c.args.reader.now in
    missing_too (λ n. n < 256) u8_bytes AnyFlag flag_bytes number is_byte old c.take_u8.new.self old c.in_default.field-0 _
    c.in_default.ensures.refused (ap Malformed c.place.ensures) c.in_default.ensures.takes

pub returns-in_default-flag_of : goal.returns-in_default-flag_of
unfolding u8_part flag_part
returns-in_default-flag_of c =
    let old = c.args.reader.now in
    another (λ n. n < 256) u8_bytes AnyFlag flag_bytes u8_lawful number is_byte old c.take_u8.new.self old c.in-Ok.number _
    (ap Malformed c.place.ensures) c.in-Ok.ensures.takes (λ f is e. c.in_default-flag_of.ensures.none f (sym (is_byte f is).1 ∙ ap u8_bytes e))

pub returns : goal.returns
unfolding u8_part flag_part
returns c =
    taken_as (λ n. n < 256) u8_bytes AnyFlag flag_bytes c.args.reader.now c.take_u8.new.self c.in-Ok.number c.in-Some.flag
    c.in-Ok.ensures.takes tt c.in-Some.ensures.found
