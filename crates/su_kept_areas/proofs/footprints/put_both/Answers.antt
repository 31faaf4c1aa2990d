use Rattle.std.proofs.lemmas.Result.{on_ok_weaker}
use Rattle.std.proofs.lemmas.List.{take_all}
use Rattle.su_kept_areas.specs.declared.sided.Sides.TheVariants.{Read, Both}
use Rattle.su_kept_areas.proofs.SidedLemmas.{one_more, next_put, read_put, all_put}
use Rattle.su_kept_areas.proofs.FewLemmas.{next_ahead, same_ahead, none_ahead, one_long, all_long}
use Rattle.su_kept_areas.proofs.footprints.put_both.Goals.{then-is_next+in_ok-put_sided, else-is_next+in_ok-put_sided-2}
use Rattle.su_kept_areas.proofs.footprints.put_both.Goals as goal

pub loop-area-preserved : goal.loop-area-preserved
loop-area-preserved c =
    let more = one_more c.args.reads.now c.loop-area.area-index c.area-item.result c.loop-area-test.true c.area-item.is in
    let i = c.loop-area.invariant in
    elim c.if-is_next.branch [
      | then-is_next+in_ok-put_sided w ↦ record {
        put = rw (more, w.writer-is, w.left-is)
            (next_put _ _ _ _ _ _ i.put c.area-item.result w.in_ok-put_sided.ensures.meant w.in_ok-put_sided.ensures.ok (c.is_next.ensures.found w.if-is_next.true));
        ahead = rw w.left-is (next_ahead _ _ _ _ i.ahead c.area-item.result c.loop-area-test.true c.area-item.is (c.is_next.ensures.found w.if-is_next.true));
        long = rw (more, w.writer-is) (one_long _ _ _ _ Both c.area-item.result i.long w.in_ok-put_sided.ensures.ok);
      }
      | else-is_next+in_ok-put_sided-2 w ↦ record {
        put = rw (more, w.writer-is, w.left-is)
            (read_put _ _ _ _ _ _ i.put c.area-item.result w.in_ok-put_sided-2.ensures.meant w.in_ok-put_sided-2.ensures.ok);
        ahead = rw w.left-is (same_ahead _ _ _ _ i.ahead c.area-item.result c.loop-area-test.true c.area-item.is (c.is_next.ensures.none w.if-is_next.false));
        long = rw (more, w.writer-is) (one_long _ _ _ _ Read c.area-item.result i.long w.in_ok-put_sided-2.ensures.ok);
      }
    ]

pub returns-clause-put : goal.returns-clause-put
returns-clause-put c =
    let all = take_all c.loop-area.area-index c.args.reads.now c.loop-area-test.false in
    let put = rw all at c.loop-area.invariant.put in
    on_ok_weaker c.put_written.result (λ behind. all_put c.args.writer.now c.loop-area.writer c.put_written.new.writer c.args.reads.now c.args.writes.now c.loop-area.left.now put behind) c.put_written.ensures

pub returns-clause-few : goal.returns-clause-few
returns-clause-few c =
    let all = take_all c.loop-area.area-index c.args.reads.now c.loop-area-test.false in
    let long = rw all at c.loop-area.invariant.long in
    on_ok_weaker c.put_written.result
    (λ behind among. all_long c.args.writer.now c.loop-area.writer c.put_written.new.writer c.args.reads.now c.loop-area.left.now long behind
    (none_ahead _ _ _ _ c.loop-area.invariant.ahead c.loop-area-test.false among)) c.put_written.ensures
