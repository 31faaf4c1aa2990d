use Rattle.std.proofs.Common.{◌≡◌, map, take}
use Rattle.su_bytes.proofs.rosters.numbers_of.Given as goal

abbrev pub invariant-loop-entry : goal.invariant-loop-entry
invariant-loop-entry l = l.numbers.items ≡ map (λ u. u.user) (take l.entry-index l.users)
