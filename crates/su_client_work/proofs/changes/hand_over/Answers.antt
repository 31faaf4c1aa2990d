use Rattle.std.proofs.Common.{ap}
use Rattle.su_client.specs.Following.{follows_on}
use Rattle.su_client.proofs.Public.{ahead_follows}
use Rattle.su_client_work.proofs.Turns.{handed_after}
use Rattle.su_client_work.proofs.changes.hand_over.Goals as goal

pub returns-clause-handed_in : goal.returns-clause-handed_in
returns-clause-handed_in g c =
    handed_after c.hand_in.result c.args.outbox.now.waiting.items c.send_all.new.outbox.waiting.items c.args.bytes.items c.args.outbox.now.client.link c.send_all.new.outbox.client.link
    c.hand_in.new.self.client.link (ap (λ q. q.items) c.send_all.ensures.waiting) c.send_all.ensures.ahead c.hand_in.ensures.handed_in

pub returns-clause-follows : goal.returns-clause-follows
returns-clause-follows g c =
    follows_on c.args.outbox.now.client.link c.send_all.new.outbox.client.link c.hand_in.new.self.client.link
    (ahead_follows c.args.outbox.now.client.link c.send_all.new.outbox.client.link c.send_all.ensures.ahead) c.hand_in.ensures.follows
