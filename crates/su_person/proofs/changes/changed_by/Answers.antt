use Rattle.std.proofs.Common.{◌∙◌, ap, sym}
use Rattle.su_person.specs.LastChange.{does_change_at}
use Rattle.su_person.proofs.ChangeLemmas.{no_undo_touches, undo_touches}
use Rattle.su_person.proofs.changes.changed_by.Goals as goal

pub returns-in-Some : goal.returns-in-Some
returns-in-Some c = λ f.
    undo_touches c.args.entries.now f c.args.entry.now.change c.in-Some.number (sym c.in-Some.ensures)
    ∙ ap (does_change_at f) (sym c.entry_at.ensures)

pub returns-in-None : goal.returns-in-None
returns-in-None c = λ f. no_undo_touches c.args.entries.now f c.args.entry.now.change (sym c.in-None.ensures)
