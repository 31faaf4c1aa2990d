use Rattle.std.proofs.Common.{◌≡◌, take}
use Rattle.std.specs.List.{enumerate_from}
use Rattle.su_bytes.specs.Roster.{users_of}
use Rattle.su_bytes.proofs.rosters.users_with.Given as goal

abbrev pub invariant-loop-number : goal.invariant-loop-number
invariant-loop-number l = users_of l.users.items ≡ enumerate_from 0 (take l.number l.keys)
