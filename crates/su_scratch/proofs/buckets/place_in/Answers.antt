use Rattle.su_scratch.proofs.Later.{told_at}
use Rattle.su_scratch.specs.Page.{place_in}
use Rattle.su_scratch.proofs.buckets.place_in.Goals as goal

pub loop-note-preserved : goal.loop-note-preserved
loop-note-preserved c =
    told_at c.args.digest.now c.loop-note.found c.tells-found.result (place_in c.args.digest.now c.args.notes.now) c.args.notes.now c.loop-note.note-index c.note-item.result
    c.loop-note-test.true c.note-item.is c.tells-found.ensures c.loop-note.invariant
