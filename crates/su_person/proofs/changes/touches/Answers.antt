use Rattle.std.proofs.Common.{◌≡◌, ◌∙◌, IfOk, Bool, ap, sym, subst}
use Rattle.std.specs.Prelude.{option_copied}
use Rattle.su_person.specs.LastChange.{does_change_at}
use Rattle.su_person.proofs.changes.touches.Goals as goal

pub returns-in-Some : goal.returns-in-Some
returns-in-Some c =
    let f = c.args.file.now in
    subst (λ (b : Bool). IfOk c.entry_changes.result (λ t. t ≡ b))
    (sym (c.changed_by.ensures f ∙ ap (λ o. does_change_at f (option_copied o)) c.in-Some.is))
    c.entry_changes.ensures

pub returns-in-None : goal.returns-in-None
returns-in-None c =
    let f = c.args.file.now in
    sym (c.changed_by.ensures f ∙ ap (λ o. does_change_at f (option_copied o)) c.in-None.is)
