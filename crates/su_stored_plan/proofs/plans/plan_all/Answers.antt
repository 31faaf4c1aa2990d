use Rattle.su_stored_desk.proofs.Public.{asks_on}
use Rattle.su_stored_plan.proofs.plans.plan_all.Goals as goal

pub returns-in_err-planned-clause-asks : goal.returns-in_err-planned-clause-asks
returns-in_err-planned-clause-asks g c =
    asks_on g.met.S.BlockSource.follows_on c.args.desk.now c.take_back.new.self c.plan_on.new.desk c.take_back.ensures.asks c.plan_on.ensures.asks

pub returns-in_err-take_back-2-clause-asks : goal.returns-in_err-take_back-2-clause-asks
returns-in_err-take_back-2-clause-asks g c =
    asks_on g.met.S.BlockSource.follows_on c.args.desk.now c.plan_on.new.desk c.take_back-2.new.self
    (asks_on g.met.S.BlockSource.follows_on c.args.desk.now c.take_back.new.self c.plan_on.new.desk c.take_back.ensures.asks c.plan_on.ensures.asks)
    c.take_back-2.ensures.asks

pub returns-clause-asks : goal.returns-clause-asks
returns-clause-asks g c =
    asks_on g.met.S.BlockSource.follows_on c.args.desk.now c.plan_on.new.desk c.take_back-2.new.self
    (asks_on g.met.S.BlockSource.follows_on c.args.desk.now c.take_back.new.self c.plan_on.new.desk c.take_back.ensures.asks c.plan_on.ensures.asks)
    c.take_back-2.ensures.asks
