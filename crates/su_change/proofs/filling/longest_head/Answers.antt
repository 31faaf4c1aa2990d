use Rattle.std.proofs.Common.{arith}
use Rattle.su_change.proofs.Fillings.{longest_before, longest_of_all}
use Rattle.su_change.proofs.filling.longest_head.Goals as goal

pub returns-in_default : goal.returns-in_default
returns-in_default c =
    longest_before c.args.operations.now c.loop-count.count c.index-operations-count.result c.loop-count.bytes c.loop-count-test.true c.index-operations-count.is c.loop-count.invariant.spelled c.loop-count.invariant.bytes c.loop-count.invariant.room
    c.in_default.ensures.fits

pub returns : goal.returns
returns c =
    longest_of_all c.args.operations.now c.loop-count.count c.loop-count.bytes (omega arith) c.loop-count.invariant.spelled c.loop-count.invariant.bytes c.loop-count.invariant.room
