use Rattle.std.proofs.Common.{◌<◌, arith}
use Rattle.su_history.proofs.UndoerLemmas.{undo_noted}
use Rattle.su_history.proofs.undoers.undoers.Goals as goal

pub loop-index-preserved-in-Some : goal.loop-index-preserved-in-Some
loop-index-preserved-in-Some c =
    let l = c.loop-index in
    let some : 0 < l.index = omega (arith, c.loop-index-test.true) in
    record {
      within = omega (arith, l.invariant.within);
      undoers = undo_noted c.args.entries.now l.index c.index-entries-index.result c.in-Some.number l.undoers.items c.deref_mut.result.now c.note.new.undoers l.undoers.len
          some l.invariant.within c.index-entries-index.is l.invariant.undoers c.in-Some.ensures c.deref_mut.ensures.value c.note.ensures l.undoers.ok.0;
    }
