use Rattle.std.proofs.Common.{rules}
use Rattle.su_gateway.specs.Requests.{grant_text}
use Rattle.su_gateway.proofs.requests.grant_text.Goals as goal

pub returns : goal.returns
unfolding grant_text
returns c = search rules
