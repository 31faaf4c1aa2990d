use Rattle.std.proofs.Common.{◌∙◌, arith}
use Rattle.su_log.proofs.parts.size_in.Goals as goal

pub returns : goal.returns
returns c =
    (omega (arith, c.in_ok-number.ensures.cases.2), c.number_in.ensures.spelled ∙ c.in_ok-number.ensures.cases.0, c.number_in.ensures.small)
