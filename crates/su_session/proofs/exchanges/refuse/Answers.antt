use Rattle.su_session.specs.Answer.{refusal_reply, reply_frame}
use Rattle.su_session.proofs.Sending.{front_sent}
use Rattle.su_session.proofs.exchanges.refuse.Goals as goal

pub returns : goal.returns
returns g c = front_sent (reply_frame (refusal_reply c.args.refusal)) _ c.send.result _ (rw c.refused.ensures at c.send.ensures)
