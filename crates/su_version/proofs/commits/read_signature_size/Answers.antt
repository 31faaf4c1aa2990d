use Rattle.std.proofs.Common.{◌≡◌, ◌≤◌, ◌<◌, ◌^◌, ℕ, true, false, refl, ap, sym, ◌∙◌, arith}
use Rattle.su_bytes.specs.declared.refusals.Refusal.TheVariants.{Malformed}
use Rattle.su_format.specs.Part.{u32_bytes, u32_part}
use Rattle.su_format.proofs.Public.{missing_too, another, taken_as, u32_lawful}
use Rattle.su_version.specs.Commit.{signature_size_part}
use Rattle.su_version.proofs.commits.read_signature_size.Goals as goal

is_word : (n : ℕ) → (1 ≤ n) × (n ≤ 9324) → (n < 2 ^ 32) × (u32_bytes n ≡ u32_bytes n)
is_word n is = (let high : n ≤ 9324 = is.1 in omega arith, refl)

pub returns-in_default : goal.returns-in_default
unfolding u32_part signature_size_part
returns-in_default c =
    let old = c.args.reader.now in
    missing_too (λ n. n < 2 ^ 32) u32_bytes (λ n. (1 ≤ n) × (n ≤ 9324)) u32_bytes (λ n. n) is_word old c.take_u32.new.self old c.in_default.field-0 _
    c.in_default.ensures.refused (ap Malformed c.place.ensures) c.in_default.ensures.takes

pub returns-then-not-is_signature_size : goal.returns-then-not-is_signature_size
unfolding u32_part signature_size_part
returns-then-not-is_signature_size c =
    let old = c.args.reader.now in
    another (λ n. n < 2 ^ 32) u32_bytes (λ n. (1 ≤ n) × (n ≤ 9324)) u32_bytes u32_lawful (λ n. n) is_word old c.take_u32.new.self old c.in-Ok.size _
    (ap Malformed c.place.ensures) c.in-Ok.ensures.takes (λ n is e. let high : n ≤ 9324 = is.1 in let yes : c.is_signature_size.result ≡ true = c.is_signature_size.ensures.1 (omega arith, omega arith) in let no : true ≡ false = sym yes ∙ c.if-not-is_signature_size.true in cc)

pub returns : goal.returns
unfolding u32_part signature_size_part
returns c =
    taken_as (λ n. n < 2 ^ 32) u32_bytes (λ n. (1 ≤ n) × (n ≤ 9324)) u32_bytes c.args.reader.now c.take_u32.new.self c.in-Ok.size c.in-Ok.size
    c.in-Ok.ensures.takes (c.is_signature_size.ensures.0 c.if-not-is_signature_size.false) refl
