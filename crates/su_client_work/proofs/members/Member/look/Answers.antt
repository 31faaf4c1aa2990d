use Rattle.std.proofs.Common.{inr, subst, sym}
use Rattle.su_view.specs.Holding.{HoldingState}
use Rattle.su_client_work.specs.Turn.{TakesTurn}
use Rattle.su_client_work.proofs.Turns.{comes_on, gives_up, gives_turn_up}
use Rattle.su_client_work.proofs.Taking.{only_stays, only_then}
use Rattle.su_client_work.proofs.members.Member.look.Goals as goal

pub returns-in-Ok-clause-link : goal.returns-in-Ok-clause-link
returns-in-Ok-clause-link g c = comes_on _ c.args.self.now.link c.begin.new.self.link c.give.new.self.link c.begin.ensures.link c.give.ensures.follows

pub returns-in-Err-clause-link : goal.returns-in-Err-clause-link
returns-in-Err-clause-link g c = comes_on _ c.args.self.now.link c.begin.new.self.link c.give.new.self.link c.begin.ensures.link c.give.ensures.follows

pub returns-in-Ok-clause-looks : goal.returns-in-Ok-clause-looks
returns-in-Ok-clause-looks g c = record {
  between = c.begin.new.self.link;
  takes_turn = subst (λ (v : HoldingState). TakesTurn g.A.Surroundings.may_connect c.args.self.now.link v c.begin.new.self.link)
      (sym c.give.ensures.stays.holding) c.in_ok-begin.ensures.turn;
  gives = c.in-Ok.ensures.given;
}

pub returns-in-Err-clause-refused : goal.returns-in-Err-clause-refused
returns-in-Err-clause-refused g c =
    inr (gives_turn_up _ c.args.self.now.link c.begin.new.self.holding c.begin.new.self.link c.give.new.self.link c.in_ok-begin.ensures.turn
    (gives_up c.give.result c.begin.new.self.link c.give.new.self.link c.give.ensures.given c.give.ensures.refused))

pub returns-in-Ok-clause-takes : goal.returns-in-Ok-clause-takes
returns-in-Ok-clause-takes g c =
    only_then c.args.self.now c.begin.new.self c.give.new.self c.begin.ensures.takes (only_stays c.begin.new.self c.give.new.self c.give.ensures.stays)

pub returns-in-Err-clause-takes : goal.returns-in-Err-clause-takes
returns-in-Err-clause-takes g c =
    only_then c.args.self.now c.begin.new.self c.give.new.self c.begin.ensures.takes (only_stays c.begin.new.self c.give.new.self c.give.ensures.stays)
