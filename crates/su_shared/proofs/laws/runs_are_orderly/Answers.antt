use Rattle.su_shared.proofs.Orders.{orderly}
use Rattle.su_shared.proofs.laws.runs_are_orderly.Goals as goal

pub returns : goal.returns
returns c = orderly
