use Rattle.std.proofs.Common.{rules}
use Rattle.su_gateway.specs.Requests.{range_text}
use Rattle.su_gateway.proofs.requests.range_text.Goals as goal

pub returns : goal.returns
unfolding range_text
returns c = search rules
