use Rattle.std.proofs.Common.{◌≡◌, take}
use Rattle.su_bytes.specs.Roster.{users_of}
use Rattle.su_bytes.proofs.rosters.copies_of_users.Given as goal

abbrev pub invariant-loop-entry : goal.invariant-loop-entry
invariant-loop-entry l = users_of l.copies.items ≡ users_of (take l.entry-index l.users)
