use Rattle.std.proofs.Common.{◌≡◌, map, take}
use Rattle.su_person.specs.FoundChanges.{found_of}
use Rattle.su_person.proofs.found_changes.FoundChanges.in_order.Given as goal

abbrev pub invariant-loop-file : goal.invariant-loop-file
invariant-loop-file l = l.lasts.items ≡ map (found_of l.self) (take l.file-index l.files)
