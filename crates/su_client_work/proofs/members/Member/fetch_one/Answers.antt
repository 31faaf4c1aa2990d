use Rattle.su_client.specs.Following.{follows_on}
use Rattle.su_client_work.proofs.members.Member.fetch_one.Goals as goal

pub returns-clause-follows : goal.returns-clause-follows
returns-clause-follows g c = follows_on c.args.self.now.link c.named_by.new.self.link c.send_get.new.self.link c.named_by.ensures.follows c.send_get.ensures.follows
