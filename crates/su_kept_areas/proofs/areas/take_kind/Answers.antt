use Rattle.std.proofs.Common.{◌<◌, [], ◌∷◌, ap}
use Rattle.su_bytes.specs.declared.refusals.Refusal.TheVariants.{Malformed}
use Rattle.su_format.specs.Part.{u8_bytes, u8_part}
use Rattle.su_format.proofs.Public.{missing_too, another, taken_as, u8_lawful}
use Rattle.su_kept_areas.specs.Spelling.{kind_number}
use Rattle.su_kept_areas.specs.Format.{AnyKind, kind_byte, kind_part}
use Rattle.su_kept_areas.proofs.Formats.{kind_is_byte}
use Rattle.su_kept_areas.proofs.areas.take_kind.Goals as goal

pub returns-in_default-clause-takes : goal.returns-in_default-clause-takes
unfolding u8_part kind_part
returns-in_default-clause-takes c =
    let old = c.args.reader.now in
    missing_too (λ n. n < 256) u8_bytes AnyKind kind_byte kind_number kind_is_byte old c.take_u8.new.self c.take_u8.new.self c.in_default.field-0 _
    c.in_default.ensures.refused (ap Malformed c.place.ensures) c.in_default.ensures.takes

pub returns-in_default-of_number-clause-takes : goal.returns-in_default-of_number-clause-takes
unfolding u8_part kind_part
returns-in_default-of_number-clause-takes c =
    let old = c.args.reader.now in
    another (λ n. n < 256) u8_bytes AnyKind kind_byte u8_lawful kind_number kind_is_byte old c.take_u8.new.self c.take_u8.new.self c.in-Ok.number _
    (ap Malformed c.place.ensures) c.in-Ok.ensures.takes (λ k _ e. c.in_default-of_number.ensures.none k e)

pub returns-clause-takes : goal.returns-clause-takes
unfolding u8_part kind_part
returns-clause-takes c =
    taken_as (λ n. n < 256) u8_bytes AnyKind kind_byte c.args.reader.now c.take_u8.new.self c.in-Ok.number c.in-Some.kind
    c.in-Ok.ensures.takes tt (ap (λ n. n ∷ []) c.in-Some.ensures.found)
