use Rattle.std.proofs.Common.{◌∙◌, arith}
use Rattle.su_shared.specs.Shares.{nothing}
use Rattle.su_shared.proofs.Orders.{steps_from}
use Rattle.su_shared.proofs.laws.steps_are_counted.Goals as goal

pub returns : goal.returns
returns c = λ i j. steps_from i nothing j ∙ omega arith
