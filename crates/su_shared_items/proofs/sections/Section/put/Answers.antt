use Rattle.std.proofs.Common.{◌≡◌, true, false, ◌∙◌, ap, sym}
use Rattle.su_shared_items.specs.Section.{is_elsewhere}
use Rattle.su_shared_items.proofs.sections.Section.put.Goals as goal

pub returns-then-is_ok-clause-elsewhere : goal.returns-then-is_ok-clause-elsewhere
returns-then-is_ok-clause-elsewhere c = λ is.
    let no : false ≡ true = sym c.if-contains.false ∙ c.contains.ensures
    ∙ ap (is_elsewhere c.self.inside.elsewhere.keys) c.as_bytes.ensures
    ∙ ap (λ s. is_elsewhere s.elsewhere c.args.digest.now) c.self.view_is ∙ is in
    absurd (cc)
