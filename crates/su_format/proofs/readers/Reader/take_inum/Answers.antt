use Rattle.std.proofs.Common.{◌≡◌, ◌<◌, ◌^◌, true, false, refl, ap, sym, ◌∙◌}
use Rattle.su_bytes.specs.FileId.{is_inum}
use Rattle.su_format.specs.Part.{u32_part, inum_part, u32_bytes}
use Rattle.su_format.proofs.Formats.{missing_too, another, taken_as}
use Rattle.su_format.proofs.Parts.{u32_lawful, inum_is_u32}
use Rattle.su_format.proofs.readers.Reader.take_inum.Goals as goal

pub returns-in_default-clause-takes : goal.returns-in_default-clause-takes
unfolding u32_part inum_part
returns-in_default-clause-takes c =
    missing_too (λ n. n < 2 ^ 32) u32_bytes (λ n. is_inum n ≡ true) u32_bytes (λ n. n) inum_is_u32 c.args.self.now c.take_u32.new.self c.args.self.now c.in_default.field-0 _
    (rw c.ahead-ahead.ensures at c.in_default.ensures.refused) c.malformed-malformed.ensures (rw c.ahead-ahead.ensures at c.in_default.ensures.takes)

pub returns-in_default-new-clause-takes : goal.returns-in_default-new-clause-takes
unfolding u32_part inum_part
returns-in_default-new-clause-takes c =
    another (λ n. n < 2 ^ 32) u32_bytes (λ n. is_inum n ≡ true) u32_bytes u32_lawful (λ n. n) inum_is_u32 c.args.self.now c.take_u32.new.self c.args.self.now c.in-Ok.number _ c.malformed-malformed.ensures
    (rw c.ahead-ahead.ensures at c.in-Ok.ensures.takes) (λ n is e. let no : false ≡ true = c.in_default-new.ensures.accepted.1 (ap is_inum (c.from.ensures ∙ sym e) ∙ is) in cc)

pub returns-clause-takes : goal.returns-clause-takes
unfolding u32_part inum_part
returns-clause-takes c =
    taken_as (λ n. n < 2 ^ 32) u32_bytes (λ n. is_inum n ≡ true) u32_bytes c.args.self.now c.take_u32.new.self c.in-Ok.number c.in-Ok-new.inum
    (rw c.ahead-ahead.ensures at c.in-Ok.ensures.takes) (ap is_inum c.in-Ok-new.ensures.value ∙ c.in-Ok-new.ensures.accepted.0 refl) (ap u32_bytes (c.in-Ok-new.ensures.value ∙ c.from.ensures))
