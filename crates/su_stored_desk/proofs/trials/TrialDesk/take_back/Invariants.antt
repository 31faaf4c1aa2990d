use Rattle.std.proofs.Common.{◌≡◌, length}
use Rattle.su_stored_desk.specs.Asked.{Asks}
use Rattle.su_stored_desk.proofs.trials.TrialDesk.take_back.Given as goal

abbrev pub invariant-loop-self : goal.invariant-loop-self
invariant-loop-self g l = record {
  settled : l.self.state.settled ≡ l.fn.self.state.settled;
  asks : Asks g.S.BlockSource.may_give g.S.BlockSource.follows l.fn.self l.self;
}

abbrev pub decreases-loop-self : goal.decreases-loop-self
decreases-loop-self g l = length l.self.state.ready
