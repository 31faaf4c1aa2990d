use Rattle.std.proofs.Common.{rules}
use Rattle.su_gateway.specs.Requests.{put_text}
use Rattle.su_gateway.proofs.requests.put_text.Goals as goal

pub returns : goal.returns
unfolding put_text
returns c = search rules
