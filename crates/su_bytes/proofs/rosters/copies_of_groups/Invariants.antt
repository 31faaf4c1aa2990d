use Rattle.std.proofs.Common.{◌≡◌, take}
use Rattle.su_bytes.specs.Roster.{groups_of}
use Rattle.su_bytes.proofs.rosters.copies_of_groups.Given as goal

abbrev pub invariant-loop-entry : goal.invariant-loop-entry
invariant-loop-entry l = groups_of l.copies.items ≡ groups_of (take l.entry-index l.groups)
