use Rattle.std.proofs.Common.{◌≡◌, ◌≤◌, length}
use Rattle.su_bytes.specs.declared.file_ids.FileId.{FileId}
use Rattle.su_person.specs.FoundChanges.{noted_of}
use Rattle.su_person.proofs.FoundLemmas.{noted_from}
use Rattle.su_person.proofs.changes.last_changes.Given as goal

abbrev pub invariant-loop-index : goal.invariant-loop-index
invariant-loop-index l = record {
  within : l.index ≤ length l.entries;
  noted : (f : FileId) → noted_of l.found f ≡ noted_from l.entries l.files l.index f;
}
