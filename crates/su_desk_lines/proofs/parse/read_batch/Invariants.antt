use Rattle.std.proofs.Common.{◌≡◌, drop, map}
use Rattle.su_desk_lines.specs.Desk.{read_batch}
use Rattle.su_desk_lines.specs.Raw.{texts}
use Rattle.su_desk_lines.specs.Value.{value_of}
use Rattle.su_desk_lines.proofs.ReadingBatches.{all_texts, read_on}
use Rattle.su_desk_lines.proofs.parse.read_batch.Given as goal

abbrev pub invariant-loop-operation : goal.invariant-loop-operation
invariant-loop-operation l =
    read_on l.verbs.items (map value_of l.values.items) (drop l.operation-index (all_texts l.operation-items)) ≡ read_batch (texts l.words)
