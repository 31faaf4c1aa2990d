use Rattle.std.proofs.Common.{◌≡◌, true, map, take}
use Rattle.std.specs.List.{list_all}
use Rattle.su_bytes.specs.Name.{is_name}
use Rattle.su_read_draft.proofs.paths.read_names.Given as goal

abbrev pub invariant-loop-piece : goal.invariant-loop-piece
invariant-loop-piece l =
    (l.names.items ≡ take l.piece-index (map (λ piece. piece.now) l.pieces))
    × (list_all is_name l.names.items ≡ true)
