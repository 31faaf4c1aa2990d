use Rattle.std.proofs.Common.{◌∙◌, ap, sym}
use Rattle.su_person.specs.LastChange.{does_change}
use Rattle.su_person.proofs.ChangeLemmas.{does_so}
use Rattle.su_person.proofs.changes.entry_changes.Goals as goal

pub returns : goal.returns
returns c = c.does_change.ensures ∙ ap (does_change c.args.file.now) c.in_ok-change.ensures ∙ does_so c.args.file.now c.args.entry.now.change

pub returns-in-Some : goal.returns-in-Some
returns-in-Some c = c.is_same.ensures ∙ sym (c.in-Some.ensures c.args.file.now)
