use Rattle.std.proofs.Common.{◌-◌, length}
use Rattle.su_pieces.proofs.Fronts.{AreFront}
use Rattle.su_pieces.proofs.pieces.differing.Given as goal

abbrev pub invariant-loop-piece : goal.invariant-loop-piece
invariant-loop-piece l = AreFront l.old l.new l.pieces.items l.done

abbrev pub decreases-loop-piece : goal.decreases-loop-piece
decreases-loop-piece l = length l.new - l.done
