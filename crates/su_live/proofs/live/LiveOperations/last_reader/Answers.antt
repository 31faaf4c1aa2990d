use Rattle.su_live.proofs.LiveLemmas.{small_in}
use Rattle.su_live.proofs.BlockerLemmas.{none_beyond, none_entered}
use Rattle.su_live.proofs.live.LiveOperations.last_reader.Goals as goal

pub loop-number-init : goal.loop-number-init
loop-number-init g c = none_beyond c.args.written.now.writes.items c.args.self.now c.args.mark c.args.above (small_in _ _ _ _ c.self.invariant c.self.view_is)

pub returns-clause-none : goal.returns-clause-none
returns-clause-none g c =
    none_entered c.args.written.now.writes.items c.args.self.now c.args.readers.now c.args.mark c.args.above c.loop-number.up_to c.loop-number.invariant c.requires c.in_default.ensures.none
