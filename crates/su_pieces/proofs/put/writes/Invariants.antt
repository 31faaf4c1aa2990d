use Rattle.std.proofs.Common.{map, take}
use Rattle.std.specs.List.{AllZip}
use Rattle.su_pieces.specs.Put.{Does, write_of}
use Rattle.su_pieces.proofs.put.writes.Given as goal

abbrev pub invariant-loop-piece : goal.invariant-loop-piece
invariant-loop-piece l =
    AllZip (Does l.path) (map (write_of l.new) (take l.piece-index l.pieces)) l.commands.items
