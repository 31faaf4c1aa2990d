use Rattle.su_client.specs.Following.{follows_itself}
use Rattle.su_client.specs.Outbox.{contents}
use Rattle.su_client.proofs.Ahead.{waits_still}
use Rattle.su_client.proofs.outboxes.OutboxBlockSource.put.Goals as goal

pub returns-then-is_empty-clause-follows : goal.returns-then-is_empty-clause-follows
returns-then-is_empty-clause-follows g c = follows_itself c.args.self.now.client.link

pub returns-then-is_empty-clause-unput : goal.returns-then-is_empty-clause-unput
returns-then-is_empty-clause-unput g c =
    waits_still (contents c.args.self.now.waiting.items) c.args.self.now.client.link c.args.self.now.client.link (follows_itself c.args.self.now.client.link)
