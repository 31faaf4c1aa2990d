use Rattle.std.proofs.Common.{rules}
use Rattle.su_gateway.specs.Requests.{create_text}
use Rattle.su_gateway.proofs.requests.create_text.Goals as goal

pub returns : goal.returns
unfolding create_text
returns c = search rules
