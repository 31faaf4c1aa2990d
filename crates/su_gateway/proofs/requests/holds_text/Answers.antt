use Rattle.std.proofs.Common.{rules}
use Rattle.su_gateway.specs.Requests.{holds_text}
use Rattle.su_gateway.proofs.requests.holds_text.Goals as goal

pub returns : goal.returns
unfolding holds_text
returns c = search rules
