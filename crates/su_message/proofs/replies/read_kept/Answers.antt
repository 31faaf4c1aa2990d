use Rattle.su_format.proofs.Public.{then_took, made}
use Rattle.su_message.proofs.replies.read_kept.Goals as goal

pub returns : goal.returns
returns c = rw c.in_ok-bytes.ensures (then_took _ _ c.take_rest.ensures (made _ _))
