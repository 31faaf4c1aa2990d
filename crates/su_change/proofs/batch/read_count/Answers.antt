use Rattle.std.proofs.Common.{◌≡◌, ◌<◌, ◌^◌, true, false, refl, ap, sym, ◌∙◌}
use Rattle.su_bytes.specs.declared.refusals.Refusal.TheVariants.{Malformed}
use Rattle.su_format.specs.Part.{u16_bytes, u16_part}
use Rattle.su_format.proofs.Public.{missing_too, another, taken_as, u16_lawful}
use Rattle.su_change.specs.Batch.{IsCount, count_part}
use Rattle.su_change.proofs.Batches.{count_is_u16}
use Rattle.su_change.proofs.batch.read_count.Goals as goal

pub returns-in_default : goal.returns-in_default
unfolding u16_part count_part
returns-in_default c =
    let old = c.args.reader.now in
    missing_too (λ n. n < 2 ^ 16) u16_bytes IsCount u16_bytes (λ n. n) count_is_u16 old c.take_u16.new.self old c.in_default.field-0 _
    c.in_default.ensures.refused (ap Malformed c.place.ensures) c.in_default.ensures.takes

pub returns-then-not-is_count : goal.returns-then-not-is_count
unfolding u16_part count_part
returns-then-not-is_count c =
    let old = c.args.reader.now in
    another (λ n. n < 2 ^ 16) u16_bytes IsCount u16_bytes u16_lawful (λ n. n) count_is_u16 old c.take_u16.new.self old c.in-Ok.count _
    (ap Malformed c.place.ensures) c.in-Ok.ensures.takes
    (λ n is e. let yes : c.is_count.result ≡ true = c.is_count.ensures.1 (rw e at is) in let no : true ≡ false = sym yes ∙ c.if-not-is_count.true in cc)

pub returns : goal.returns
unfolding u16_part count_part
returns c =
    taken_as (λ n. n < 2 ^ 16) u16_bytes IsCount u16_bytes c.args.reader.now c.take_u16.new.self c.in-Ok.count c.in-Ok.count
    c.in-Ok.ensures.takes (c.is_count.ensures.0 c.if-not-is_count.false) refl
