use Rattle.su_stored_desk.proofs.Public.{asks_on}
use Rattle.su_stored_desk.proofs.trials.TrialDesk.rehearse.Goals as goal

pub returns-clause-asks : goal.returns-clause-asks
returns-clause-asks g c =
    asks_on g.met.S.BlockSource.follows_on c.args.self.now c.rehearse_on-answer.new.self c.take_back-2.new.self
    (asks_on g.met.S.BlockSource.follows_on c.args.self.now c.take_back.new.self c.rehearse_on-answer.new.self c.take_back.ensures.asks c.rehearse_on-answer.ensures.asks)
    c.take_back-2.ensures.asks

pub returns-in_err-take_back-2-clause-asks : goal.returns-in_err-take_back-2-clause-asks
returns-in_err-take_back-2-clause-asks g c =
    asks_on g.met.S.BlockSource.follows_on c.args.self.now c.rehearse_on-answer.new.self c.take_back-2.new.self
    (asks_on g.met.S.BlockSource.follows_on c.args.self.now c.take_back.new.self c.rehearse_on-answer.new.self c.take_back.ensures.asks c.rehearse_on-answer.ensures.asks)
    c.take_back-2.ensures.asks
