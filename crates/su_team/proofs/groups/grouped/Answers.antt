use Rattle.std.proofs.Common.{arith}
use Rattle.std.proofs.lemmas.Grind.{common_steps}
use Rattle.su_team.proofs.GroupLemmas.{groups_from-push}
use Rattle.su_team.proofs.groups.grouped.Goals as goal

pub loop-place-preserved : goal.loop-place-preserved
loop-place-preserved c = grind (arith, common_steps, groups_from-push)
