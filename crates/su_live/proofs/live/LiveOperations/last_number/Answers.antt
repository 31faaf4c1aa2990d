use Rattle.std.proofs.Common.{sym}
use Rattle.su_live.proofs.LiveLemmas.{ascend_in, none_at_all, none_has_greater}
use Rattle.su_live.proofs.live.LiveOperations.last_number.Goals as goal

pub returns-in-Some : goal.returns-in-Some
returns-in-Some g c = none_has_greater c.in-Some.operation.now c.args.self.now (ascend_in _ _ _ _ c.self.invariant c.self.view_is) (sym c.in-Some.ensures)

pub returns-in-None : goal.returns-in-None
returns-in-None g c = none_at_all 0 c.args.self.now (sym c.in-None.ensures)
