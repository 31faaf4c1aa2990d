use Rattle.std.proofs.Common.{◌≡◌, true, false, ◌∙◌, ap, sym}
use Rattle.su_shared_items.specs.Section.{is_elsewhere}
use Rattle.su_shared_items.proofs.sections.Section.put_pinned.Goals as goal

pub returns-then-stays-clause-elsewhere : goal.returns-then-stays-clause-elsewhere
returns-then-stays-clause-elsewhere c = λ is.
    let no : false ≡ true = sym c.if-contains.false ∙ c.contains.ensures
    ∙ ap (is_elsewhere c.self.inside.elsewhere.keys) c.as_bytes.ensures
    ∙ ap (λ s. is_elsewhere s.elsewhere c.args.digest.now) c.self.view_is ∙ is in
    absurd (cc)

pub returns-in-Ok-clause-elsewhere : goal.returns-in-Ok-clause-elsewhere
returns-in-Ok-clause-elsewhere c = λ is.
    let no : false ≡ true = sym c.if-contains.false ∙ c.contains.ensures
    ∙ ap (is_elsewhere c.self.inside.elsewhere.keys) c.as_bytes.ensures
    ∙ ap (λ s. is_elsewhere s.elsewhere c.args.digest.now) c.self.view_is ∙ is in
    absurd (cc)

pub returns-in-Err-clause-elsewhere : goal.returns-in-Err-clause-elsewhere
returns-in-Err-clause-elsewhere c = λ is.
    let no : false ≡ true = sym c.if-contains.false ∙ c.contains.ensures
    ∙ ap (is_elsewhere c.self.inside.elsewhere.keys) c.as_bytes.ensures
    ∙ ap (λ s. is_elsewhere s.elsewhere c.args.digest.now) c.self.view_is ∙ is in
    absurd (cc)
