use Rattle.std.proofs.Common.{◌≤◌, ◌+◌, length}
use Rattle.su_stored_desk.specs.Asked.{Asks}
use Rattle.su_view.specs.Listing.{HasTaken}
use Rattle.su_view.specs.Viewed.{desk_of}
use Rattle.su_view.proofs.views.View.accept.Given as goal

abbrev pub invariant-loop-rest : goal.invariant-loop-rest
invariant-loop-rest g l =
    HasTaken g.S.BlockSource.may_give l.fn.self l.fn.bytes l.count l.self l.rest
    × (l.count + length l.rest ≤ length l.fn.bytes)
    × Asks g.S.BlockSource.may_give g.S.BlockSource.follows (desk_of l.fn.self) (desk_of l.self)

abbrev pub decreases-loop-rest : goal.decreases-loop-rest
decreases-loop-rest g l = length l.rest
