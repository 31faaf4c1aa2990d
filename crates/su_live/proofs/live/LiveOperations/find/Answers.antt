use Rattle.std.proofs.Common.{Some, ◌∙◌, ap}
use Rattle.su_live.proofs.BoxLemmas.{found_box}
use Rattle.su_live.proofs.live.LiveOperations.find.Goals as goal

pub returns-in-Some : goal.returns-in-Some
returns-in-Some g c = ap Some c.as_ref.ensures ∙ found_box c.args.number c.self.inside.operations.entries _ _ _ _ c.self.invariant c.self.view_is c.in-Some.ensures.value

pub returns-in-None : goal.returns-in-None
returns-in-None g c = found_box c.args.number c.self.inside.operations.entries _ _ _ _ c.self.invariant c.self.view_is c.in-None.ensures.value
