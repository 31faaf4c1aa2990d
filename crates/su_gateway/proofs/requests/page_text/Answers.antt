use Rattle.std.proofs.Common.{rules}
use Rattle.su_gateway.specs.Requests.{page_text}
use Rattle.su_gateway.proofs.requests.page_text.Goals as goal

pub returns : goal.returns
unfolding page_text
returns c = search rules
