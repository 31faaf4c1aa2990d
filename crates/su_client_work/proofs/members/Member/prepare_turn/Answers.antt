use Rattle.su_client.specs.Following.{follows_itself, follows_on}
use Rattle.su_client.proofs.Public.{ahead_follows}
use Rattle.su_client_work.proofs.members.Member.prepare_turn.Goals as goal

pub returns-then-self-clause-follows : goal.returns-then-self-clause-follows
returns-then-self-clause-follows g c = follows_itself c.args.self.now.link

pub returns-clause-follows : goal.returns-clause-follows
returns-clause-follows g c =
    follows_on c.args.self.now.link c.clear.new.self.link c.send_turn.new.self.link
    (follows_on c.args.self.now.link c.pass_over.new.self.link c.clear.new.self.link c.pass_over.ensures.follows c.clear.ensures.follows)
    (ahead_follows c.clear.new.self.link c.send_turn.new.self.link c.send_turn.ensures.ahead)
