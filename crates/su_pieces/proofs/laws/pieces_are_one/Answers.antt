use Rattle.su_pieces.proofs.OnePieces.{one_way}
use Rattle.su_pieces.proofs.laws.pieces_are_one.Goals as goal

pub returns : goal.returns
returns c = one_way
