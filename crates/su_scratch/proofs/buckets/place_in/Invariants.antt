use Rattle.std.proofs.Common.{◌≡◌, drop}
use Rattle.su_scratch.specs.Page.{later, place_in}
use Rattle.su_scratch.proofs.buckets.place_in.Given as goal

abbrev pub invariant-loop-note : goal.invariant-loop-note
invariant-loop-note l =
    later l.digest l.found (drop l.note-index l.notes) ≡ place_in l.digest l.notes
