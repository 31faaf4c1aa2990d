use Rattle.std.proofs.Common.{subst, sym}
use Rattle.su_client.specs.Following.{follows_on}
use Rattle.su_view.specs.Holding.{HoldingState}
use Rattle.su_client_work.specs.Turn.{IsCaughtUp}
use Rattle.su_client_work.proofs.Taking.{only_stays, only_then}
use Rattle.su_client_work.proofs.Turns.{caught_on}
use Rattle.su_client_work.proofs.members.Member.take_up_to.Goals as goal

pub returns-clause-takes : goal.returns-clause-takes
returns-clause-takes g c =
    only_then c.args.self.now c.take_many.new.self c.pass_over.new.self c.take_many.ensures.takes (only_stays c.take_many.new.self c.pass_over.new.self c.pass_over.ensures.stays)

pub returns-clause-follows : goal.returns-clause-follows
returns-clause-follows g c =
    follows_on c.args.self.now.link c.take_many.new.self.link c.pass_over.new.self.link c.take_many.ensures.follows c.pass_over.ensures.follows

pub returns-clause-caught_up : goal.returns-clause-caught_up
returns-clause-caught_up g c =
    subst (λ (v : HoldingState). IsCaughtUp c.args.count v c.args.self.now.link c.pass_over.new.self.link) (sym c.pass_over.ensures.stays.holding)
    (caught_on c.args.count c.take_many.new.self.holding c.args.self.now.link c.take_many.new.self.link c.pass_over.new.self.link c.in_ok-take_many.ensures.caught_up c.pass_over.ensures.follows)
