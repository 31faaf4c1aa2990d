use Rattle.su_client.specs.Following.{follows_on}
use Rattle.su_client_work.proofs.Turns.{granted_after, ungranted_after}
use Rattle.su_client_work.proofs.members.Member.ask_turn.Goals as goal

pub returns-clause-follows : goal.returns-clause-follows
returns-clause-follows g c = follows_on c.args.self.now.link c.prepare_turn.new.self.link c.grant.new.self.link c.prepare_turn.ensures.follows c.grant.ensures.follows

pub returns-clause-granted : goal.returns-clause-granted
returns-clause-granted g c = granted_after c.grant.result c.args.self.now.link c.prepare_turn.new.self.link c.grant.new.self.link c.prepare_turn.ensures.follows c.grant.ensures.granted

pub returns-clause-refused : goal.returns-clause-refused
returns-clause-refused g c = ungranted_after c.grant.result c.args.self.now.link c.prepare_turn.new.self.link c.grant.new.self.link c.prepare_turn.ensures.follows c.grant.ensures.refused
