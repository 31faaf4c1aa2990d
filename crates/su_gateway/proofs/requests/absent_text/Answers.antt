use Rattle.std.proofs.Common.{rules}
use Rattle.su_gateway.specs.Requests.{absent_text}
use Rattle.su_gateway.proofs.requests.absent_text.Goals as goal

pub returns : goal.returns
unfolding absent_text
returns c = search rules
