use Rattle.std.proofs.Common.{rules}
use Rattle.su_gateway.specs.Requests.{conditions_text}
use Rattle.su_gateway.proofs.requests.conditions_text.Goals as goal

pub returns : goal.returns
unfolding conditions_text
returns c = search rules
