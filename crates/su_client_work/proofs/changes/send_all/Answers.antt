use Rattle.std.proofs.Common.{sym}
use Rattle.su_client.proofs.Public.{ahead_itself, ahead_on}
use Rattle.su_client_work.proofs.changes.send_all.Goals as goal

pub returns-in_default-clause-ahead : goal.returns-in_default-clause-ahead
returns-in_default-clause-ahead g c = ahead_itself c.args.outbox.now.client.link

pub returns-then-not-send_commit-clause-ahead : goal.returns-then-not-send_commit-clause-ahead
returns-then-not-send_commit-clause-ahead g c =
    ahead_on c.args.outbox.now.client.link c.send_ahead.new.self.client.link c.send_commit.new.outbox.client.link c.send_ahead.ensures.ahead c.send_commit.ensures.ahead

pub returns-then-is_followed-clause-ahead : goal.returns-then-is_followed-clause-ahead
returns-then-is_followed-clause-ahead g c =
    ahead_on c.args.outbox.now.client.link c.send_commit.new.outbox.client.link c.send_turn.new.client.link
    (ahead_on c.args.outbox.now.client.link c.send_ahead.new.self.client.link c.send_commit.new.outbox.client.link c.send_ahead.ensures.ahead c.send_commit.ensures.ahead)
    (let same = c.client_mut.ensures.value in rw (sym same) c.send_turn.ensures)

pub returns-else-is_followed-clause-ahead : goal.returns-else-is_followed-clause-ahead
returns-else-is_followed-clause-ahead g c =
    ahead_on c.args.outbox.now.client.link c.send_ahead.new.self.client.link c.send_commit.new.outbox.client.link c.send_ahead.ensures.ahead c.send_commit.ensures.ahead
