use Rattle.std.proofs.Common.{inr}
use Rattle.su_person.proofs.Working.{takes_then_stays, works_then_stays, works_then_takes}
use Rattle.su_person.proofs.carrying.begin_alone.Goals as goal

pub returns-in_err-take_turn-clause-works : goal.returns-in_err-take_turn-clause-works
returns-in_err-take_turn-clause-works g c =
    works_then_takes c.args.member.now c.move_on.new.member c.take_turn.new.member c.move_on.ensures.works c.take_turn.ensures.takes

pub returns-clause-works : goal.returns-clause-works
returns-clause-works g c =
    works_then_stays c.args.member.now c.take_turn.new.member c.give_up.new.self
    (works_then_takes c.args.member.now c.move_on.new.member c.take_turn.new.member c.move_on.ensures.works c.take_turn.ensures.takes)
    c.give_up.ensures.stays

pub returns-clause-takes : goal.returns-clause-takes
returns-clause-takes g c = (
  c.move_on.new.member,
  c.move_on.ensures.moves,
  inr (takes_then_stays c.move_on.new.member c.take_turn.new.member c.give_up.new.self c.take_turn.ensures.takes c.give_up.ensures.stays),
)
