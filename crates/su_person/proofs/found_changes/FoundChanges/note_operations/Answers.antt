use Rattle.su_person.proofs.FoundLemmas.{one_operation_more}
use Rattle.su_person.proofs.found_changes.FoundChanges.note_operations.Goals as goal

pub loop-op-preserved : goal.loop-op-preserved
loop-op-preserved c =
    one_operation_more c.args.self.now c.loop-op.self c.note_operation.new.self (c.args.number, c.args.author) c.args.operations.now c.loop-op.op-index c.op-item.result c.loop-op-test.true c.op-item.is
    c.loop-op.invariant c.in_ok-note_operation.ensures
