use Rattle.std.proofs.Common.{◌≡◌, ◌≤◌, ◌<◌, ℕ, true, false, refl, ap, sym, ◌∙◌, arith}
use Rattle.su_bytes.specs.declared.refusals.Refusal.TheVariants.{Malformed}
use Rattle.su_format.specs.Part.{u8_bytes, u8_part}
use Rattle.su_format.proofs.Public.{missing_too, another, taken_as, u8_lawful}
use Rattle.su_version.specs.Version.{vector_size_part}
use Rattle.su_version.proofs.versions.read_vector_size.Goals as goal

is_byte : (n : ℕ) → (2 ≤ n) × (n ≤ 80) → (n < 256) × (u8_bytes n ≡ u8_bytes n)
is_byte n is = (let high : n ≤ 80 = is.1 in omega arith, refl)

pub returns-in_default : goal.returns-in_default
unfolding u8_part vector_size_part
returns-in_default c =
    let old = c.args.reader.now in
    missing_too (λ n. n < 256) u8_bytes (λ n. (2 ≤ n) × (n ≤ 80)) u8_bytes (λ n. n) is_byte old c.take_u8.new.self old c.in_default.field-0 _
    c.in_default.ensures.refused (ap Malformed c.place.ensures) c.in_default.ensures.takes

pub returns-then-not-is_vector_size : goal.returns-then-not-is_vector_size
unfolding u8_part vector_size_part
returns-then-not-is_vector_size c =
    let old = c.args.reader.now in
    another (λ n. n < 256) u8_bytes (λ n. (2 ≤ n) × (n ≤ 80)) u8_bytes u8_lawful (λ n. n) is_byte old c.take_u8.new.self old c.in-Ok.size _
    (ap Malformed c.place.ensures) c.in-Ok.ensures.takes (λ n is e. let high : n ≤ 80 = is.1 in let yes : c.is_vector_size.result ≡ true = c.is_vector_size.ensures.1 (omega arith, omega arith) in let no : true ≡ false = sym yes ∙ c.if-not-is_vector_size.true in cc)

pub returns : goal.returns
unfolding u8_part vector_size_part
returns c =
    taken_as (λ n. n < 256) u8_bytes (λ n. (2 ≤ n) × (n ≤ 80)) u8_bytes c.args.reader.now c.take_u8.new.self c.in-Ok.size c.in-Ok.size
    c.in-Ok.ensures.takes (c.is_vector_size.ensures.0 c.if-not-is_vector_size.false) refl
