use Rattle.su_draft.proofs.LeastFree.{least_free-least}
use Rattle.su_draft.proofs.laws.numbers_are_least.Goals as goal

pub returns : goal.returns
returns c = least_free-least
