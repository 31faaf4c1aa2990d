use Rattle.std.proofs.Common.{◌+◌, subst, sym}
use Rattle.std.specs.List.{All}
use Rattle.su_pieces.specs.Piece.{IsPiece}
use Rattle.su_pieces.proofs.PieceLemmas.{none_of_same, put_over_is, same_item}
use Rattle.su_pieces.proofs.Fronts.{AreFront, front_all, front_more}
use Rattle.su_pieces.proofs.pieces.differing.Goals as goal

pub loop-piece-preserved : goal.loop-piece-preserved
loop-piece-preserved c =
    let (is, from, same) = c.in-Some.ensures in
    subst (λ items. AreFront c.args.old.now c.args.new.now items (c.in-Some.piece.off + c.in-Some.piece.len)) (sym c.in_ok-push.ensures.items)
    (front_more c.args.old.now c.args.new.now c.loop-piece.pieces.items c.loop-piece.done c.in-Some.piece c.loop-piece.invariant is from same)

pub returns-clause-makes : goal.returns-clause-makes
returns-clause-makes c =
    put_over_is c.args.old.now c.args.new.now c.loop-piece.pieces.items
    (front_all c.args.old.now c.args.new.now c.loop-piece.pieces.items c.loop-piece.done c.loop-piece.invariant c.in_default.ensures)

pub returns-clause-same : goal.returns-clause-same
returns-clause-same c = λ i inside none.
    same_item c.args.old.now c.args.new.now c.loop-piece.pieces.items i
    (front_all c.args.old.now c.args.new.now c.loop-piece.pieces.items c.loop-piece.done c.loop-piece.invariant c.in_default.ensures) inside none

pub returns-clause-none : goal.returns-clause-none
returns-clause-none c = λ same.
    none_of_same c.args.new.now c.loop-piece.pieces.items
    (subst (λ bs. All (IsPiece bs c.args.new.now) c.loop-piece.pieces.items) same c.loop-piece.invariant.each)
