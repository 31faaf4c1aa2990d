use Rattle.su_client.specs.Following.{follows_itself}
use Rattle.su_client_work.proofs.members.Member.keep_turn.Goals as goal

pub returns-else-not-keeps-clause-follows : goal.returns-else-not-keeps-clause-follows
returns-else-not-keeps-clause-follows g c = follows_itself c.args.self.now.link
