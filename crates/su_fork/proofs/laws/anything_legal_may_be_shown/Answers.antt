use Rattle.su_fork.proofs.Calling.{can_show}
use Rattle.su_fork.proofs.laws.anything_legal_may_be_shown.Goals as goal

pub returns : goal.returns
returns c = can_show
