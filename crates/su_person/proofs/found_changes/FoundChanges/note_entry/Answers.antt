use Rattle.su_person.proofs.FoundLemmas.{change_read, if_ok, lone_noted}
use Rattle.su_person.proofs.found_changes.FoundChanges.note_entry.Goals as goal

pub returns : goal.returns
returns c =
    if_ok c.note_change.result
    (change_read c.args.self.now c.note_change.new.self (c.args.number, c.args.author) c.args.changing.now.change c.in_ok-change.change c.in_ok-change.ensures)
    c.note_change.ensures

pub returns-in-Some : goal.returns-in-Some
returns-in-Some c =
    if_ok c.note.result
    (lone_noted c.args.self.now c.note.new.self (c.args.number, c.args.author) c.args.changing.now.change c.in-Some.file c.in-Some.ensures)
    c.note.ensures
