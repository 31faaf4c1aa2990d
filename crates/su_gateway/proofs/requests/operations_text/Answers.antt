use Rattle.std.proofs.Common.{rules}
use Rattle.su_gateway.specs.Requests.{operations_text}
use Rattle.su_gateway.proofs.requests.operations_text.Goals as goal

pub returns : goal.returns
unfolding operations_text
returns c = search rules
