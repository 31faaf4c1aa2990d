use Rattle.std.proofs.Common.{◌≡◌, ◌<◌, ◌^◌, true, false, refl, ap, sym, ◌∙◌}
use Rattle.su_bytes.specs.declared.refusals.Refusal.TheVariants.{Malformed}
use Rattle.su_format.specs.Part.{u32_bytes, u32_part}
use Rattle.su_format.proofs.Public.{missing_too, another, taken_as, u32_lawful}
use Rattle.su_change.specs.Write.{IsLength, length_part}
use Rattle.su_change.proofs.Operations.{length_is_u32}
use Rattle.su_change.proofs.write.read_length.Goals as goal

pub returns-in_default : goal.returns-in_default
unfolding u32_part length_part
returns-in_default c =
    let old = c.args.reader.now in
    missing_too (λ n. n < 2 ^ 32) u32_bytes IsLength u32_bytes (λ n. n) length_is_u32 old c.take_u32.new.self old c.in_default.field-0 _
    c.in_default.ensures.refused (ap Malformed c.place.ensures) c.in_default.ensures.takes

pub returns-then-not-is_length : goal.returns-then-not-is_length
unfolding u32_part length_part
returns-then-not-is_length c =
    let old = c.args.reader.now in
    another (λ n. n < 2 ^ 32) u32_bytes IsLength u32_bytes u32_lawful (λ n. n) length_is_u32 old c.take_u32.new.self old c.in-Ok.length _
    (ap Malformed c.place.ensures) c.in-Ok.ensures.takes
    (λ n is e. let yes : c.is_length.result ≡ true = c.is_length.ensures.1 (rw e at is) in let no : true ≡ false = sym yes ∙ c.if-not-is_length.true in cc)

pub returns : goal.returns
unfolding u32_part length_part
returns c =
    taken_as (λ n. n < 2 ^ 32) u32_bytes IsLength u32_bytes c.args.reader.now c.take_u32.new.self c.in-Ok.length c.in-Ok.length
    c.in-Ok.ensures.takes (c.is_length.ensures.0 c.if-not-is_length.false) refl
