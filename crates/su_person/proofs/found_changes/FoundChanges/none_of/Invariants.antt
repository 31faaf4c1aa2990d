use Rattle.std.proofs.Common.{◌≡◌, None, take}
use Rattle.su_bytes.specs.declared.file_ids.FileId.{FileId}
use Rattle.su_person.specs.FoundChanges.{is_asked, noted_in}
use Rattle.su_person.proofs.FoundLemmas.{known_if}
use Rattle.su_person.proofs.found_changes.FoundChanges.none_of.Given as goal

abbrev pub invariant-loop-file : goal.invariant-loop-file
invariant-loop-file l = (f : FileId) → noted_in l.lasts f ≡ known_if (is_asked (take l.file-index l.files) f) None
