use Rattle.std.proofs.Common.{◌<◌, ◌^◌, refl, ap, arith}
use Rattle.su_bytes.specs.declared.refusals.Refusal.TheVariants.{Malformed}
use Rattle.su_format.specs.Part.{u64_bytes, u64_part}
use Rattle.su_format.proofs.Public.{missing_too, another, taken_as, u64_lawful}
use Rattle.su_change.specs.Outline.{IsNumber, number_part}
use Rattle.su_change.proofs.OutlineLemmas.{number_is_u64}
use Rattle.su_change.proofs.outlines.read_count.Goals as goal

pub returns-in_default : goal.returns-in_default
unfolding u64_part number_part
returns-in_default c =
    let old = c.args.reader.now in
    missing_too (λ n. n < 2 ^ 64) u64_bytes IsNumber u64_bytes (λ n. n) number_is_u64 old c.take_u64.new.self old c.in_default.field-0 _
    c.in_default.ensures.refused (ap Malformed c.place.ensures) c.in_default.ensures.takes

pub returns-then-count-eq0 : goal.returns-then-count-eq0
unfolding u64_part number_part
returns-then-count-eq0 c =
    let old = c.args.reader.now in
    another (λ n. n < 2 ^ 64) u64_bytes IsNumber u64_bytes u64_lawful (λ n. n) number_is_u64 old c.take_u64.new.self old c.in-Ok.count _
    (ap Malformed c.place.ensures) c.in-Ok.ensures.takes
    (λ n is e. let some = is.0 in omega (arith, some, e))

pub returns : goal.returns
unfolding u64_part number_part
returns c =
    taken_as (λ n. n < 2 ^ 64) u64_bytes IsNumber u64_bytes c.args.reader.now c.take_u64.new.self c.in-Ok.count c.in-Ok.count
    c.in-Ok.ensures.takes (omega arith, omega arith) refl
