use Rattle.su_stored_desk.proofs.Public.{asks_on}
use Rattle.su_stored_plan.proofs.plans.plan_next.Goals as goal

pub returns-in_err-rehearse_on-clause-asks : goal.returns-in_err-rehearse_on-clause-asks
returns-in_err-rehearse_on-clause-asks g c =
    asks_on g.met.S.BlockSource.follows_on c.args.desk.now c.draft_ready.new.desk c.rehearse_on.new.self c.draft_ready.ensures.asks c.rehearse_on.ensures.asks

pub returns-clause-asks : goal.returns-clause-asks
returns-clause-asks g c =
    asks_on g.met.S.BlockSource.follows_on c.args.desk.now c.draft_ready.new.desk c.rehearse_on.new.self c.draft_ready.ensures.asks c.rehearse_on.ensures.asks
