use Rattle.std.proofs.Common.{rules}
use Rattle.base64.specs.Rfc4648.{encode_symbols}
use Rattle.su_gateway.specs.Requests.{lead_put_text}
use Rattle.su_gateway.proofs.requests.lead_put_text.Goals as goal

pub returns : goal.returns
unfolding lead_put_text encode_symbols
returns c = search rules
