use Rattle.std.proofs.Common.{◌≡◌, ◌-◌, [], length, vec_len}
use Rattle.su_stored_desk.specs.Asked.{Asks, IsClear}
use Rattle.su_reasons.proofs.Ways.{IsUndoneSoFar}
use Rattle.su_reasons.proofs.finding.reasons.Given as goal

abbrev pub invariant-loop-undone : goal.invariant-loop-undone
invariant-loop-undone g l = record {
  undone : IsClear g.S.BlockSource.may_give l.desk → IsUndoneSoFar l.fn.desk.state.settled l.number l.undone.items l.desk.state.settled;
  none_ready : l.desk.state.ready ≡ [];
  asks : Asks g.S.BlockSource.may_give g.S.BlockSource.follows l.fn.desk l.desk;
}

abbrev pub decreases-loop-undone : goal.decreases-loop-undone
decreases-loop-undone g l = length l.authors - vec_len l.undone
