use Rattle.std.proofs.Common.{◌≡◌, ◌+◌, ◌≤◌, None, drop, length}
use Rattle.su_person.specs.LastChange.{last_from}
use Rattle.su_person.proofs.changes.last_change.Given as goal

-- none of the entries so far is it
abbrev pub invariant-loop-index : goal.invariant-loop-index
invariant-loop-index l = record {
  within : l.index ≤ length l.entries;
  none : last_from (l.index + 1) l.entries l.file (drop l.index l.entries) ≡ None;
}
