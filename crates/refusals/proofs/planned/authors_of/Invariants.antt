use Rattle.std.proofs.Common.{◌≡◌, map, take}
use Rattle.su_desk.specs.declared.entries.Entry.{Entry}
use Rattle.refusals.proofs.planned.authors_of.Given as goal

abbrev pub invariant-loop-entry : goal.invariant-loop-entry
invariant-loop-entry l = l.authors.items ≡ map (λ (e : Entry). e.author) (take l.entry-index l.entries)
