use Rattle.su_client.specs.Following.{follows_itself}
use Rattle.su_client_work.proofs.members.Member.named_by.Goals as goal

pub returns-in-Some-clause-follows : goal.returns-in-Some-clause-follows
returns-in-Some-clause-follows g c = follows_itself c.args.self.now.link
