use Rattle.std.proofs.Common.{Some, ◌∙◌, ap}
use Rattle.su_live.proofs.BoxLemmas.{last_box}
use Rattle.su_live.proofs.live.LiveOperations.last.Goals as goal

pub returns-in-Some : goal.returns-in-Some
returns-in-Some g c = ap Some c.as_ref.ensures ∙ last_box c.self.inside.operations.entries _ _ _ c.self.view_is c.in-Some.ensures.last
