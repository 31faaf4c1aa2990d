use Rattle.std.proofs.Common.{◌≡◌, ◌∙◌, Ok, ap, subst, sym, inr}
use Rattle.su_client.specs.Following.{follows_on}
use Rattle.su_client.specs.Link.{LinkState, Follows}
use Rattle.su_plan.specs.Plan.{plan}
use Rattle.su_view.specs.Holding.{HoldingState, tree_of_list}
use Rattle.su_client_work.proofs.Asked.{asks_stays, asks_then}
use Rattle.su_client_work.proofs.Taking.{only_asks, only_stays, only_then}
use Rattle.su_client_work.proofs.Turns.{comes_on, gives_turn_up, gives_up_after, turn_asks}
use Rattle.su_client_work.proofs.members.Member.plan.Goals as goal

pub returns-in-Ok-clause-takes : goal.returns-in-Ok-clause-takes
returns-in-Ok-clause-takes g c =
    only_then c.args.self.now c.begin.new.self c.keep_turn.new.self c.begin.ensures.takes
    (only_then c.begin.new.self c.plan_one.new.self c.keep_turn.new.self (only_asks c.begin.new.self c.plan_one.new.self c.plan_one.ensures.asks)
    (only_stays c.plan_one.new.self c.keep_turn.new.self c.keep_turn.ensures.stays))

pub returns-in-Ok-clause-link : goal.returns-in-Ok-clause-link
returns-in-Ok-clause-link g c =
    comes_on _ c.args.self.now.link c.begin.new.self.link c.keep_turn.new.self.link c.begin.ensures.link
    (follows_on c.begin.new.self.link c.plan_one.new.self.link c.keep_turn.new.self.link c.plan_one.ensures.follows c.keep_turn.ensures.follows)

pub returns-in-Ok-clause-turn : goal.returns-in-Ok-clause-turn
returns-in-Ok-clause-turn g c =
    turn_asks _ c.args.self.now.link c.begin.new.self c.keep_turn.new.self c.in_ok-begin.ensures.turn
    (asks_then c.begin.new.self c.plan_one.new.self c.keep_turn.new.self c.plan_one.ensures.asks (asks_stays c.plan_one.new.self c.keep_turn.new.self c.keep_turn.ensures.stays))
    (follows_on c.begin.new.self.link c.plan_one.new.self.link c.keep_turn.new.self.link c.plan_one.ensures.follows c.keep_turn.ensures.follows)

pub returns-in-Ok-clause-planned : goal.returns-in-Ok-clause-planned
returns-in-Ok-clause-planned g c = λ clear.
    let kept = asks_stays c.plan_one.new.self c.keep_turn.new.self c.keep_turn.ensures.stays in
    subst (λ (v : HoldingState). plan v.roster (tree_of_list v) v.user c.args.command.now ≡ Ok c.in-Ok.operations.items) (sym (kept.holding ∙ c.plan_one.ensures.asks.holding))
    (c.in-Ok.ensures.planned (kept.clear clear))

pub returns-in-Err-clause-takes : goal.returns-in-Err-clause-takes
returns-in-Err-clause-takes g c =
    only_then c.args.self.now c.begin.new.self c.give_up.new.self c.begin.ensures.takes
    (only_then c.begin.new.self c.plan_one.new.self c.give_up.new.self (only_asks c.begin.new.self c.plan_one.new.self c.plan_one.ensures.asks)
    (only_stays c.plan_one.new.self c.give_up.new.self c.give_up.ensures.stays))

pub returns-in-Err-clause-link : goal.returns-in-Err-clause-link
returns-in-Err-clause-link g c =
    comes_on _ c.args.self.now.link c.begin.new.self.link c.give_up.new.self.link c.begin.ensures.link
    (follows_on c.begin.new.self.link c.plan_one.new.self.link c.give_up.new.self.link c.plan_one.ensures.follows c.give_up.ensures.follows)

pub returns-in-Err-clause-refused : goal.returns-in-Err-clause-refused
returns-in-Err-clause-refused g c =
    inr (gives_turn_up _ c.args.self.now.link c.begin.new.self.holding c.begin.new.self.link c.give_up.new.self.link c.in_ok-begin.ensures.turn
    (gives_up_after c.begin.new.self.link c.plan_one.new.self.link c.give_up.new.self.link c.plan_one.ensures.follows c.give_up.ensures.gives_up))
