use Rattle.su_version.proofs.Leaves.{next_leaf}
use Rattle.su_version.proofs.laws.leaves_rise.Goals as goal

pub returns : goal.returns
returns c ro cs d e chain next signed = next_leaf ro cs d e chain next signed
