use Rattle.su_client.specs.Following.{follows_itself}
use Rattle.su_client_work.proofs.members.Member.make_ready.Goals as goal

pub returns-then-not-is_taken_at-clause-follows : goal.returns-then-not-is_taken_at-clause-follows
returns-then-not-is_taken_at-clause-follows g c = follows_itself c.args.self.now.link
