use Rattle.su_client.specs.Following.{follows_itself}
use Rattle.su_client_work.proofs.members.Member.shed.Goals as goal

pub returns-then-self-clause-follows : goal.returns-then-self-clause-follows
returns-then-self-clause-follows g c = follows_itself c.args.self.now.link
