use Rattle.std.proofs.Common.{◌≡◌, false, nat_eq, length, refl, ap, sym, ◌∙◌}
use Rattle.std.specs.Cmp.Lexicographic.{pointwise, same_text, other_text}
use Rattle.std.proofs.lemmas.Bool.{not-true, not-false}
use Rattle.su_format.specs.Part.{bytes_part, mark_part}
use Rattle.su_format.proofs.Formats.{missing_too, another, taken_as}
use Rattle.su_format.proofs.Parts.{bytes_lawful}
use Rattle.su_format.proofs.readers.Reader.take_mark.Goals as goal

pub returns-in_default-clause-refused : goal.returns-in_default-clause-refused
unfolding bytes_part mark_part
returns-in_default-clause-refused c =
    let mark = c.args.mark.now in
    let refused = rw c.ahead-ahead.ensures at c.in_default.ensures.refused in (
      missing_too (λ b. length b ≡ length mark) (λ b. b) (λ b. b ≡ mark) (λ b. b) (λ b. b) (λ b is. (ap length is, refl)) c.args.self.now c.take_bytes.new.self c.args.self.now c.in_default.field-0 _
          refused.1 c.malformed-malformed.ensures refused.0,
      c.malformed-malformed.ensures,
    )

pub returns-then-ne-clause-refused : goal.returns-then-ne-clause-refused
unfolding bytes_part mark_part
returns-then-ne-clause-refused c =
    let mark = c.args.mark.now in (
      another (λ b. length b ≡ length mark) (λ b. b) (λ b. b ≡ mark) (λ b. b) (bytes_lawful (length mark)) (λ b. b) (λ b is. (ap length is, refl)) c.args.self.now c.take_bytes.new.self c.args.self.now c.in-Ok.bytes.now _
          c.malformed-malformed.ensures (rw c.ahead-ahead.ensures at c.in-Ok.ensures.found) (λ b is e. let not_same : false ≡ pointwise nat_eq c.in-Ok.bytes.now mark = sym (not-true _ (sym c.ne.ensures ∙ c.if-ne.true)) in other_text c.in-Ok.bytes.now mark not_same (sym e ∙ is)),
      c.malformed-malformed.ensures,
    )

pub returns-clause-found : goal.returns-clause-found
unfolding bytes_part mark_part
returns-clause-found c =
    let mark = c.args.mark.now in
    taken_as (λ b. length b ≡ length mark) (λ b. b) (λ b. b ≡ mark) (λ b. b) c.args.self.now c.take_bytes.new.self c.in-Ok.bytes.now mark
    (rw c.ahead-ahead.ensures at c.in-Ok.ensures.found) refl (sym (same_text c.in-Ok.bytes.now mark (sym (not-false _ (sym c.ne.ensures ∙ c.if-ne.false)))))
