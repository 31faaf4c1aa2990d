use Rattle.std.proofs.Common.{rules}
use Rattle.su_gateway.specs.Requests.{led_text}
use Rattle.su_gateway.proofs.requests.led_text.Goals as goal

pub returns : goal.returns
unfolding led_text
returns c = search rules
