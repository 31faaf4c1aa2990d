use Rattle.std.proofs.Common.{◌≡◌, ◌-◌, List, length}
use Rattle.std.specs.List.{flat_map, AllByRecursion}
use Rattle.su_scratch.specs.declared.notes.Note.{Note}
use Rattle.su_scratch.specs.declared.pages.TheConstants.{NOTES_OF_A_PAGE}
use Rattle.su_scratch.specs.Page.{note_bytes, place_in, IsNote}
use Rattle.su_scratch.proofs.PageReading.{AreLeft}
use Rattle.su_scratch.proofs.pages.search.Given as goal

abbrev pub invariant-loop : goal.invariant-loop
invariant-loop l = (notes : List Note) → AllByRecursion IsNote notes
    → length notes ≡ NOTES_OF_A_PAGE → l.fn.reader.left ≡ flat_map note_bytes notes
    → AreLeft l.digest l.reader.left l.found (NOTES_OF_A_PAGE - l.counter) (place_in l.digest notes)
