use Rattle.std.proofs.Common.{refl, ap}
use Rattle.su_desk.specs.Trial.{TrialState}
use Rattle.su_view.proofs.AskLemmas.{asks_seen}
use Rattle.su_view.proofs.KeepingLemmas.{keeping_desk}
use Rattle.su_view.proofs.views.View.live.Goals as goal

pub invariant_of-self : goal.invariant_of-self
invariant_of-self g c = keeping_desk g.S.BlockSource.may_give c.self.inside.keeping (record c.self.inside.keeping { desk = c.take_back.new.self }) c.self.invariant refl (c.in_err-take_back.ensures.err) (c.take_back.ensures.asks.clear)

pub invariant_of-self-2 : goal.invariant_of-self-2
invariant_of-self-2 g c = keeping_desk g.S.BlockSource.may_give c.self.inside.keeping (record c.self.inside.keeping { desk = c.take_back.new.self }) c.self.invariant refl (ap (λ (t : TrialState). t.settled) c.in_ok-take_back.ensures.ok) (c.take_back.ensures.asks.clear)

pub returns-in_err-take_back-clause-asks : goal.returns-in_err-take_back-clause-asks
returns-in_err-take_back-clause-asks g c = asks_seen c.self.inside.keeping c.args.self.now c.take_back.new.self c.self.view_is c.take_back.ensures.asks

pub returns-clause-asks : goal.returns-clause-asks
returns-clause-asks g c = asks_seen c.self.inside.keeping c.args.self.now c.take_back.new.self c.self.view_is c.take_back.ensures.asks
