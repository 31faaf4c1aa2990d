use Rattle.su_client.specs.Following.{follows_itself}
use Rattle.su_client_work.proofs.members.Member.turn_to.Goals as goal

pub returns-else-index-same-clause-follows : goal.returns-else-index-same-clause-follows
returns-else-index-same-clause-follows g c = follows_itself c.args.self.now.link
