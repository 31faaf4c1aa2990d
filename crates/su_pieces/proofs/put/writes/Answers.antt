use Rattle.std.proofs.Common.{◌+◌, map, take, subst, sym}
use Rattle.std.specs.List.{AllZip}
use Rattle.su_pieces.specs.Put.{Does, write_of}
use Rattle.su_pieces.proofs.PutLemmas.{zip_more}
use Rattle.su_pieces.proofs.put.writes.Goals as goal

pub loop-piece-preserved : goal.loop-piece-preserved
loop-piece-preserved c =
    subst (λ cs. AllZip (Does c.args.path.now) (map (write_of c.args.new.now) (take (c.loop-piece.piece-index + 1) c.args.pieces.now)) cs) (sym c.in_ok-push.ensures.items)
    (zip_more (Does c.args.path.now) (write_of c.args.new.now) c.args.pieces.now c.loop-piece.piece-index (record { off = 0; len = 0 }) c.loop-piece.commands.items c.in_ok-write.field-0
    c.loop-piece-test.true c.loop-piece.invariant c.in_ok-write.ensures)
