use Rattle.su_stored_desk.proofs.Public.{asks_on}
use Rattle.su_stored_desk.proofs.trials.TrialDesk.prepare_as.Goals as goal

pub returns-then-count-eq1-clause-asks : goal.returns-then-count-eq1-clause-asks
returns-then-count-eq1-clause-asks g c =
    asks_on g.met.S.BlockSource.follows_on c.args.self.now c.take_back.new.self c.prepare_one.new.self c.take_back.ensures.asks c.prepare_one.ensures.asks

pub returns-else-count-eq1-clause-asks : goal.returns-else-count-eq1-clause-asks
returns-else-count-eq1-clause-asks g c =
    asks_on g.met.S.BlockSource.follows_on c.args.self.now c.take_back.new.self c.prepare_batch.new.self c.take_back.ensures.asks c.prepare_batch.ensures.asks

pub returns-in_default-clause-asks : goal.returns-in_default-clause-asks
returns-in_default-clause-asks g c =
    asks_on g.met.S.BlockSource.follows_on c.args.self.now c.take_back.new.self c.prepare_one-in_default.new.self c.take_back.ensures.asks c.prepare_one-in_default.ensures.asks
