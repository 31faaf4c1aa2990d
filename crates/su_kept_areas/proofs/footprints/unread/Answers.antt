use Rattle.su_kept_areas.proofs.FewLemmas.{next_ahead, same_ahead, none_ahead}
use Rattle.su_kept_areas.proofs.footprints.unread.Goals.{then-is_next, else-is_next}
use Rattle.su_kept_areas.proofs.footprints.unread.Goals as goal

pub loop-area-preserved : goal.loop-area-preserved
loop-area-preserved c =
    elim c.if-is_next.branch [
      | then-is_next w ↦ rw w.left-is (next_ahead _ _ _ _ c.loop-area.invariant c.area-item.result c.loop-area-test.true c.area-item.is (c.is_next.ensures.found w.if-is_next.true))
      | else-is_next w ↦ rw w.left-is (same_ahead _ _ _ _ c.loop-area.invariant c.area-item.result c.loop-area-test.true c.area-item.is (c.is_next.ensures.none w.if-is_next.false))
    ]

pub returns : goal.returns
returns c = none_ahead c.args.reads.now c.args.writes.now c.loop-area.left.now c.loop-area.area-index c.loop-area.invariant c.loop-area-test.false
