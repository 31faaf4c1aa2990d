use Rattle.std.proofs.Common.{◌≡◌, map, take}
use Rattle.su_team.specs.TeamUsers.{told}
use Rattle.su_team.proofs.teams.keys_of.Given as goal

abbrev pub invariant-loop-user : goal.invariant-loop-user
invariant-loop-user l = l.keys.items ≡ map (λ u. (told u).1) (take l.user-index l.users)
