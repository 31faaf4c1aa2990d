use Rattle.std.proofs.Common.{◌≡◌, ◌++◌, take}
use Rattle.std.specs.List.{flat_map}
use Rattle.su_scratch.specs.Page.{note_bytes, older_bytes}
use Rattle.su_scratch.proofs.pages.page_bytes.Given as goal

abbrev pub invariant-loop-note : goal.invariant-loop-note
invariant-loop-note l =
    l.writer ≡ older_bytes l.fn.older ++ flat_map note_bytes (take l.note-index l.notes)
