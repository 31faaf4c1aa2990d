use Rattle.std.proofs.Common.{◌∙◌, sym}
use Rattle.su_person.specs.FoundChanges.{key_of}
use Rattle.su_person.proofs.FoundLemmas.{first_noted, none_noted}
use Rattle.su_person.proofs.found_changes.FoundChanges.note.Goals as goal

pub returns-in_ok-insert : goal.returns-in_ok-insert
returns-in_ok-insert c = λ f.
    first_noted c.args.self.now.lasts c.insert.new.self c.args.file.now f c.key_of.result (c.args.number, c.args.author) c.key_of.ensures (sym c.is_missing.ensures ∙ c.if-is_missing.true)
    (c.in_ok-insert.ensures.updates.0 (key_of f))

pub returns-else-is_missing : goal.returns-else-is_missing
returns-else-is_missing c = λ f.
    none_noted c.args.self.now.lasts c.args.file.now f (c.args.number, c.args.author) (sym c.is_missing.ensures ∙ c.if-is_missing.false)
