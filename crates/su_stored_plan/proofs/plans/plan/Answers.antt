use Rattle.su_stored_desk.proofs.Public.{asks_on}
use Rattle.su_stored_plan.proofs.plans.plan.Goals as goal

pub returns-in_err-operations-clause-asks : goal.returns-in_err-operations-clause-asks
returns-in_err-operations-clause-asks g c =
    asks_on g.met.S.BlockSource.follows_on c.args.desk.now c.take_back.new.self c.draft_ready.new.desk c.take_back.ensures.asks c.draft_ready.ensures.asks

pub returns-in_err-rehearse-clause-asks : goal.returns-in_err-rehearse-clause-asks
returns-in_err-rehearse-clause-asks g c =
    asks_on g.met.S.BlockSource.follows_on c.args.desk.now c.draft_ready.new.desk c.rehearse.new.self
    (asks_on g.met.S.BlockSource.follows_on c.args.desk.now c.take_back.new.self c.draft_ready.new.desk c.take_back.ensures.asks c.draft_ready.ensures.asks)
    c.rehearse.ensures.asks

pub returns-clause-asks : goal.returns-clause-asks
returns-clause-asks g c =
    asks_on g.met.S.BlockSource.follows_on c.args.desk.now c.draft_ready.new.desk c.rehearse.new.self
    (asks_on g.met.S.BlockSource.follows_on c.args.desk.now c.take_back.new.self c.draft_ready.new.desk c.take_back.ensures.asks c.draft_ready.ensures.asks)
    c.rehearse.ensures.asks
