use Rattle.std.proofs.Common.{arith}
use Rattle.su_live.proofs.BlockerLemmas.{none_above_last}
use Rattle.su_live.proofs.live.LiveOperations.last_entered.Goals as goal

pub returns-then-last-above-clause-none : goal.returns-then-last-above-clause-none
returns-then-last-above-clause-none g c q over =
    none_above_last c.args.written.now.writes.items c.args.self.now c.args.above c.loop-mark.last c.loop-mark.marks c.loop-mark.invariant c.in_default.ensures.none q (omega arith)

pub returns-else-last-above-clause-last : goal.returns-else-last-above-clause-last
returns-else-last-above-clause-last g c =
    none_above_last c.args.written.now.writes.items c.args.self.now c.args.above c.loop-mark.last c.loop-mark.marks c.loop-mark.invariant c.in_default.ensures.none
