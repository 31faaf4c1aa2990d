use Rattle.su_client.specs.Following.{follows_on}
use Rattle.su_client_work.proofs.members.Member.catch_up_some.Goals as goal

pub returns-in_err-take_up_to-clause-follows : goal.returns-in_err-take_up_to-clause-follows
returns-in_err-take_up_to-clause-follows g c =
    follows_on c.args.self.now.link c.pass_over.new.self.link c.take_up_to.new.self.link c.pass_over.ensures.follows c.take_up_to.ensures.follows

pub returns-then-end_-count-clause-follows : goal.returns-then-end_-count-clause-follows
returns-then-end_-count-clause-follows g c =
    follows_on c.args.self.now.link c.pass_over.new.self.link c.take_up_to.new.self.link c.pass_over.ensures.follows c.take_up_to.ensures.follows
