use Rattle.su_client.specs.Following.{follows_itself}
use Rattle.su_client.proofs.Public.{ahead_follows}
use Rattle.su_client_work.proofs.members.Member.send_get.Goals as goal

pub returns-in-Some-clause-follows : goal.returns-in-Some-clause-follows
returns-in-Some-clause-follows g c = ahead_follows c.args.self.now.link c.send_ahead.new.self.link c.send_ahead.ensures.ahead

pub returns-in_default-clause-follows : goal.returns-in_default-clause-follows
returns-in_default-clause-follows g c = follows_itself c.args.self.now.link

pub returns-in_default-2-clause-follows : goal.returns-in_default-2-clause-follows
returns-in_default-2-clause-follows g c = follows_itself c.args.self.now.link
