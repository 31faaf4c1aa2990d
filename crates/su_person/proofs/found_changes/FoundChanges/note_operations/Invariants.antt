use Rattle.std.proofs.Common.{take}
use Rattle.std.specs.List.{list_any}
use Rattle.su_bytes.specs.declared.file_ids.FileId.{FileId}
use Rattle.su_person.specs.FoundChanges.{Notes}
use Rattle.su_person.specs.LastChange.{changes_bytes}
use Rattle.su_person.proofs.found_changes.FoundChanges.note_operations.Given as goal

abbrev pub invariant-loop-op : goal.invariant-loop-op
invariant-loop-op l = Notes (λ (f : FileId). list_any (changes_bytes f) (take l.op-index l.operations)) (l.number, l.author) l.fn.self l.self
