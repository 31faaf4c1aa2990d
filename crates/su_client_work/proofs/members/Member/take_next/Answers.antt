use Rattle.su_client.specs.Following.{follows_on}
use Rattle.su_client_work.proofs.Taking.{only_stays, only_then}
use Rattle.su_client_work.proofs.Turns.{more_after}
use Rattle.su_client_work.proofs.members.Member.take_next.Goals as goal

pub returns-clause-takes : goal.returns-clause-takes
returns-clause-takes g c =
    only_then c.args.self.now c.make_ready.new.self c.take_one.new.self (only_stays c.args.self.now c.make_ready.new.self c.make_ready.ensures.stays) c.take_one.ensures.takes

pub returns-clause-follows : goal.returns-clause-follows
returns-clause-follows g c = follows_on c.args.self.now.link c.make_ready.new.self.link c.take_one.new.self.link c.make_ready.ensures.follows c.take_one.ensures.follows

pub returns-clause-more : goal.returns-clause-more
returns-clause-more g c =
    more_after c.take_one.result c.args.self.now.holding c.make_ready.new.self.holding c.take_one.new.self.holding c.args.self.now.link c.make_ready.new.self.link c.take_one.new.self.link
    c.make_ready.ensures.stays.holding c.make_ready.ensures.follows c.take_one.ensures.more
