use Rattle.std.proofs.Common.{ap}
use Rattle.su_client.specs.Following.{follows_on}
use Rattle.su_client.specs.Outbox.{contents}
use Rattle.su_client.proofs.Ahead.{none_waits, on_err}
use Rattle.su_client.proofs.outboxes.Outbox.get_put.Goals as goal

pub returns-clause-follows : goal.returns-clause-follows
returns-clause-follows g c =
    follows_on c.args.self.now.client.link c.settle.new.self.client.link c.get.new.self.link c.settle.ensures.follows
    (follows_on c.settle.new.self.client.link c.pass_to.new.self.link c.get.new.self.link c.pass_to.ensures.follows c.get.ensures.follows)

pub returns-clause-err : goal.returns-clause-err
returns-clause-err g c =
    on_err c.get.result
    (none_waits (contents c.args.self.now.waiting.items) c.args.self.now.client.link c.settle.new.self.client.link c.get.new.self.link (contents c.settle.new.self.waiting.items)
    c.in_ok-settle.ensures.put (ap contents c.in_ok-settle.ensures.waiting)
    (follows_on c.settle.new.self.client.link c.pass_to.new.self.link c.get.new.self.link c.pass_to.ensures.follows c.get.ensures.follows))
