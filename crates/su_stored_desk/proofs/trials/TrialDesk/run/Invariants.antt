use Rattle.std.proofs.Common.{◌≤◌, ◌+◌, ◌-◌, length, take, vec_len, vec_capacity}
use Rattle.su_stored_desk.specs.Asked.{Asks, IsClear, Runs}
use Rattle.su_stored_desk.proofs.trials.TrialDesk.run.Given as goal

abbrev pub invariant-loop-change : goal.invariant-loop-change
invariant-loop-change g l = record {
  ran : IsClear g.S.BlockSource.may_give l.self → Runs l.fn.self.state.settled (take l.change-index l.changes) l.replies.items l.self.state.settled;
  room : vec_len l.replies + (length l.changes - l.change-index) ≤ vec_capacity l.replies;
  asks : Asks g.S.BlockSource.may_give g.S.BlockSource.follows l.fn.self l.self;
}
