use Rattle.su_client.specs.Following.{follows_itself}
use Rattle.su_client.proofs.Public.{ahead_follows}
use Rattle.su_client_work.proofs.members.Member.send_fetch.Goals as goal

pub returns-then-is_some-clause-follows : goal.returns-then-is_some-clause-follows
returns-then-is_some-clause-follows g c = follows_itself c.args.self.now.link

pub returns-clause-follows : goal.returns-clause-follows
returns-clause-follows g c = ahead_follows c.args.self.now.link c.send_ahead.new.self.link c.send_ahead.ensures.ahead
