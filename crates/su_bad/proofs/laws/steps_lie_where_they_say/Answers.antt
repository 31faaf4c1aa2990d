use Rattle.su_bad.proofs.ShownAt.{shown_as_before}
use Rattle.su_bad.proofs.laws.steps_lie_where_they_say.Goals as goal

pub returns-clause-spared : goal.returns-clause-spared
returns-clause-spared c = shown_as_before
