use Rattle.su_client.specs.Following.{follows_on}
use Rattle.su_client_work.proofs.Asked.{clear_same}
use Rattle.su_client_work.proofs.Turns.{gives_up_after}
use Rattle.su_client_work.proofs.Working.{most_on}
use Rattle.su_client_work.proofs.members.Member.hand_in.Goals as goal

pub returns-in-Err-clause-clear : goal.returns-in-Err-clause-clear
returns-in-Err-clause-clear g c = λ clear.
    c.store_new.ensures.clear (clear_same c.store_new.new.self c.give_up.new.self c.give_up.ensures.stays.holding c.give_up.ensures.stays.asked clear)

pub returns-in-Err-clause-signs : goal.returns-in-Err-clause-signs
returns-in-Err-clause-signs g c =
    most_on c.args.self.now.holding c.args.change c.args.self.now c.store_new.new.self c.give_up.new.self c.store_new.ensures.signs
    (record { signed = c.give_up.ensures.stays.signed; next = c.give_up.ensures.stays.next })
    (clear_same c.store_new.new.self c.give_up.new.self c.give_up.ensures.stays.holding c.give_up.ensures.stays.asked)

pub returns-in-Err-clause-follows : goal.returns-in-Err-clause-follows
returns-in-Err-clause-follows g c = follows_on c.args.self.now.link c.store_new.new.self.link c.give_up.new.self.link c.store_new.ensures.follows c.give_up.ensures.follows

pub returns-in-Err-clause-gives_up : goal.returns-in-Err-clause-gives_up
returns-in-Err-clause-gives_up g c = gives_up_after c.args.self.now.link c.store_new.new.self.link c.give_up.new.self.link c.store_new.ensures.follows c.give_up.ensures.gives_up
