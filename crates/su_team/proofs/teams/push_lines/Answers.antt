use Rattle.std.proofs.Common.{arith}
use Rattle.std.proofs.lemmas.Grind.{common_steps}
use Rattle.su_team.proofs.TeamUserLemmas.{lines-users_of}
use Rattle.su_team.proofs.teams.push_lines.Goals as goal

pub returns : goal.returns
returns c = let lines = lines-users_of c.args.users.now in grind (arith, common_steps, lines)
