use Rattle.std.proofs.Common.{◌-◌, ◌^◌}
use Rattle.su_stored_desk.specs.Asked.{IsClear}
use Rattle.su_reasons.proofs.Ways.{IsReached}
use Rattle.su_reasons.proofs.finding.first_in_the_way.Given as goal

abbrev pub invariant-loop-blocker : goal.invariant-loop-blocker
invariant-loop-blocker g l = IsClear g.S.BlockSource.may_give l.desk → IsReached l.desk.state.settled.roster l.desk.state.settled.history l.number l.first l.at

abbrev pub decreases-loop-blocker : goal.decreases-loop-blocker
decreases-loop-blocker g l = 2 ^ 64 - l.at
