use Rattle.std.proofs.Common.{◌≡◌, ◌++◌, take}
use Rattle.std.specs.List.{flat_map}
use Rattle.su_team.specs.Team.{user_line}
use Rattle.su_team.specs.TeamUsers.{told}
use Rattle.su_team.proofs.teams.push_lines.Given as goal

abbrev pub invariant-loop-user : goal.invariant-loop-user
invariant-loop-user l = l.text.items ≡ l.fn.text.items ++ flat_map (λ u. user_line (told u)) (take l.user-index l.users)
