use Rattle.std.proofs.Common.{rules}
use Rattle.su_gateway.specs.Requests.{lead_text}
use Rattle.su_gateway.proofs.requests.lead_text.Goals as goal

pub returns : goal.returns
unfolding lead_text
returns c = search rules
