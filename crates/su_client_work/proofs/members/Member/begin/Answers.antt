use Rattle.std.proofs.Common.{inr}
use Rattle.su_client.specs.Following.{follows_on}
use Rattle.su_client_work.proofs.Turns.{comes_on, gives_up_after}
use Rattle.su_client_work.proofs.Taking.{only_stays, only_then}
use Rattle.su_client_work.proofs.members.Member.begin.Goals as goal

pub returns-in-Ok-catch_up-clause-link : goal.returns-in-Ok-catch_up-clause-link
returns-in-Ok-catch_up-clause-link g c = comes_on _ c.args.self.now.link c.take_turn.new.self.link c.catch_up.new.self.link c.take_turn.ensures.link c.catch_up.ensures.follows

pub returns-clause-link : goal.returns-clause-link
returns-clause-link g c =
    comes_on _ c.args.self.now.link c.take_turn.new.self.link c.give_up.new.self.link c.take_turn.ensures.link
    (follows_on c.take_turn.new.self.link c.catch_up.new.self.link c.give_up.new.self.link c.catch_up.ensures.follows c.give_up.ensures.follows)

pub returns-clause-refused : goal.returns-clause-refused
returns-clause-refused g c = inr (record {
  count = _;
  last = _;
  turn = c.take_turn.new.self.link;
  granted = c.in-Ok.ensures.granted;
  gives_up = gives_up_after c.take_turn.new.self.link c.catch_up.new.self.link c.give_up.new.self.link c.catch_up.ensures.follows c.give_up.ensures.gives_up;
})

pub returns-in-Ok-catch_up-clause-takes : goal.returns-in-Ok-catch_up-clause-takes
returns-in-Ok-catch_up-clause-takes g c =
    only_then c.args.self.now c.take_turn.new.self c.catch_up.new.self (only_stays c.args.self.now c.take_turn.new.self c.take_turn.ensures.stays) c.catch_up.ensures.takes

pub returns-clause-takes : goal.returns-clause-takes
returns-clause-takes g c =
    only_then c.args.self.now c.take_turn.new.self c.give_up.new.self (only_stays c.args.self.now c.take_turn.new.self c.take_turn.ensures.stays)
    (only_then c.take_turn.new.self c.catch_up.new.self c.give_up.new.self c.catch_up.ensures.takes (only_stays c.catch_up.new.self c.give_up.new.self c.give_up.ensures.stays))
