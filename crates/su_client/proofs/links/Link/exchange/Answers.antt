use Rattle.std.proofs.Common.{sym}
use Rattle.su_client.proofs.Sending.{heard_without, sent_heard}
use Rattle.su_client.proofs.links.Link.exchange.Goals as goal

pub returns : goal.returns
returns g c =
    sent_heard c.args.message.now c.args.self.now c.is_sent.new.self _ c.reply.result c.if-not-is_sent.ensures
    (rw (sym c.self.view_is) (heard_without c.self.inside.ahead.items c.self.inside.wire c.reply.new.self c.reply.result c.reply.ensures))
