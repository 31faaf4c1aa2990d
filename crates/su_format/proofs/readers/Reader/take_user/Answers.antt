use Rattle.std.proofs.Common.{◌≡◌, ◌<◌, true, false, refl, ap, sym, ◌∙◌}
use Rattle.su_bytes.specs.Principal.{is_user}
use Rattle.su_format.specs.Part.{u8_part, user_part, u8_bytes}
use Rattle.su_format.proofs.Formats.{missing_too, another, taken_as}
use Rattle.su_format.proofs.Parts.{u8_lawful, user_is_u8}
use Rattle.su_format.proofs.readers.Reader.take_user.Goals as goal

pub returns-in_default-clause-takes : goal.returns-in_default-clause-takes
unfolding u8_part user_part
returns-in_default-clause-takes c =
    missing_too (λ n. n < 256) u8_bytes (λ n. is_user n ≡ true) u8_bytes (λ n. n) user_is_u8 c.args.self.now c.take_u8.new.self c.args.self.now c.in_default.field-0 _
    (rw c.ahead-ahead.ensures at c.in_default.ensures.refused) c.malformed-malformed.ensures (rw c.ahead-ahead.ensures at c.in_default.ensures.takes)

pub returns-in_default-new-clause-takes : goal.returns-in_default-new-clause-takes
unfolding u8_part user_part
returns-in_default-new-clause-takes c =
    another (λ n. n < 256) u8_bytes (λ n. is_user n ≡ true) u8_bytes u8_lawful (λ n. n) user_is_u8 c.args.self.now c.take_u8.new.self c.args.self.now c.in-Ok.number _ c.malformed-malformed.ensures
    (rw c.ahead-ahead.ensures at c.in-Ok.ensures.takes) (λ n is e. let no : false ≡ true = c.in_default-new.ensures.accepted.1 (ap is_user (c.from.ensures ∙ sym e) ∙ is) in cc)

pub returns-clause-takes : goal.returns-clause-takes
unfolding u8_part user_part
returns-clause-takes c =
    taken_as (λ n. n < 256) u8_bytes (λ n. is_user n ≡ true) u8_bytes c.args.self.now c.take_u8.new.self c.in-Ok.number c.in-Ok-new.user
    (rw c.ahead-ahead.ensures at c.in-Ok.ensures.takes) (ap is_user c.in-Ok-new.ensures.value ∙ c.in-Ok-new.ensures.accepted.0 refl) (ap u8_bytes (c.in-Ok-new.ensures.value ∙ c.from.ensures))
