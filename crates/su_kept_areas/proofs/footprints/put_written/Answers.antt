use Rattle.std.proofs.Common.{take}
use Rattle.su_kept_areas.proofs.SidedLemmas.{one_more, one_written}
use Rattle.su_kept_areas.proofs.footprints.put_written.Goals as goal

pub loop-area-preserved : goal.loop-area-preserved
loop-area-preserved c =
    let more = one_more c.args.areas.now c.loop-area.area-index c.area-item.result c.loop-area-test.true c.area-item.is in
    rw more
    (one_written c.args.writer.now c.loop-area.writer c.put_sided.new.writer (take c.loop-area.area-index c.args.areas.now) c.area-item.result c.loop-area.invariant c.in_ok-put_sided.ensures.ok c.in_ok-put_sided.ensures.meant)
