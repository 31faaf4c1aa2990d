use Rattle.su_person.proofs.FoundLemmas.{batch_noted, if_ok}
use Rattle.su_person.proofs.found_changes.FoundChanges.note_batch.Goals as goal

pub returns : goal.returns
returns c =
    if_ok c.note_operations.result
    (batch_noted c.args.self.now c.note_operation.new.self c.note_operations.new.self (c.args.number, c.args.author) c.args.batch.now c.parts.result.0.now c.parts.result.1.now c.parts.ensures
    c.in_ok-note_operation.ensures)
    c.note_operations.ensures
