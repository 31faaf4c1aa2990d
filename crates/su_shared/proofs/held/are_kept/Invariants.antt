use Rattle.std.proofs.Common.{◌≡◌, ◌<◌, ℕ, Some, map, take, slice_get}
use Rattle.su_shared.specs.Seats.{SeatView}
use Rattle.su_shared.proofs.held.are_kept.Given as goal

abbrev pub invariant-loop-i : goal.invariant-loop-i
invariant-loop-i g l = record {
  kept : map (λ s. s.kept) (take l.i l.seats.items) ≡ take l.i l.kept.items;
  numbers : (k : ℕ) (s : SeatView) → k < l.i → slice_get l.seats.items k ≡ Some s → s.number ≡ k;
}
