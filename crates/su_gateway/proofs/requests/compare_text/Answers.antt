use Rattle.std.proofs.Common.{rules}
use Rattle.su_gateway.specs.Requests.{compare_text}
use Rattle.su_gateway.proofs.requests.compare_text.Goals as goal

pub returns : goal.returns
unfolding compare_text
returns c = search rules
