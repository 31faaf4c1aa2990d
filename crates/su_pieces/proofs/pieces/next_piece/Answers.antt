use Rattle.std.proofs.Common.{refl, arith}
use Rattle.su_pieces.proofs.Fronts.{piece_is}
use Rattle.su_pieces.proofs.pieces.next_piece.Goals as goal

pub returns : goal.returns
returns c =
    let first = c.in_ok-first.first in
    let (from, there, differs, same) = c.in_ok-first.ensures in
    let run = c.end_of_run.ensures in
    let end = c.min-end.ensures in
    let least = c.div_ceil.ensures in (
      piece_is c.args.old.now c.args.new.now first c.end_of_run.result there run.above run.few run.inside run.differ run.longest _ refl (omega (arith, end)),
      omega (arith, from, least),
      λ n low high. same n (omega (arith, least)) (omega arith),
    )
