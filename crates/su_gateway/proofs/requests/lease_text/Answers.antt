use Rattle.std.proofs.Common.{rules}
use Rattle.su_gateway.specs.Requests.{lease_text}
use Rattle.su_gateway.proofs.requests.lease_text.Goals as goal

pub returns : goal.returns
unfolding lease_text
returns c = search rules
