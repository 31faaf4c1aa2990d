use Rattle.su_fork.proofs.Runs.{held_list}
use Rattle.su_fork.proofs.laws.views_are_legal.Goals as goal

pub returns : goal.returns
returns c w es k xs r h = (held_list w es k xs r h).legal
