use Rattle.std.proofs.Common.{◌∙◌}
use Rattle.std.proofs.iter.Serving.{serving}
use Rattle.su_live.proofs.BoxLemmas.{boxed_numbers}
use Rattle.su_live.proofs.live.LiveOperations.numbers.Goals as goal

pub returns-clause-value : goal.returns-clause-value
returns-clause-value g c = (grind serving) ∙ boxed_numbers c.self.inside.operations.entries _ c.self.view_is
