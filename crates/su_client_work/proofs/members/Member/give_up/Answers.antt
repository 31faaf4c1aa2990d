use Rattle.su_client.specs.Following.{follows_on}
use Rattle.su_client_work.proofs.Turns.{gives_up, gives_up_after}
use Rattle.su_client_work.proofs.members.Member.give_up.Goals as goal

pub returns-clause-follows : goal.returns-clause-follows
returns-clause-follows g c = follows_on c.args.self.now.link c.pass_over.new.self.link c.give.new.self.link c.pass_over.ensures.follows c.give.ensures.follows

pub returns-clause-gives_up : goal.returns-clause-gives_up
returns-clause-gives_up g c = gives_up_after c.args.self.now.link c.pass_over.new.self.link c.give.new.self.link c.pass_over.ensures.follows
    (gives_up c.give.result c.pass_over.new.self.link c.give.new.self.link c.give.ensures.given c.give.ensures.refused)
