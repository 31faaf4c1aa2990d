use Rattle.su_session.proofs.Sending.{says_sent}
use Rattle.su_session.proofs.exchanges.exchange.Goals as goal

pub returns : goal.returns
returns g c = says_sent g.S.Service.answers _ _ _ _ _ c.in-Ok.reply _ c.send.result _ c.in-Ok.ensures.ok c.turn_by.ensures c.send.ensures
