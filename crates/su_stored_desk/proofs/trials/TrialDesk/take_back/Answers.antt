use Rattle.std.proofs.Common.{◌∙◌, refl, ap}
use Rattle.su_desk.specs.Trial.{TrialState}
use Rattle.su_stored_desk.proofs.Public.{asks_nothing, asks_on}
use Rattle.su_stored_desk.proofs.trials.TrialDesk.take_back.Goals as goal

pub loop-self-init : goal.loop-self-init
loop-self-init g c = record {
  settled = refl;
  asks = asks_nothing g.met.S.BlockSource.follows_itself c.args.self.now c.args.self.now refl refl refl;
}

pub loop-self-preserved : goal.loop-self-preserved
loop-self-preserved g c = record {
  settled = ap (λ (t : TrialState). t.settled) c.in_ok-take_last_back.ensures.ok ∙ c.loop-self.invariant.settled;
  asks = asks_on g.met.S.BlockSource.follows_on c.args.self.now c.loop-self.self c.take_last_back.new.self c.loop-self.invariant.asks c.take_last_back.ensures.asks;
}

pub returns-in_err-take_last_back-clause-asks : goal.returns-in_err-take_last_back-clause-asks
returns-in_err-take_last_back-clause-asks g c = asks_on g.met.S.BlockSource.follows_on c.args.self.now c.loop-self.self c.take_last_back.new.self c.loop-self.invariant.asks c.take_last_back.ensures.asks
