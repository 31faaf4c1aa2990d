use Rattle.std.proofs.Common.{◌≡◌, ◌<◌, ℕ, Some, slice_get}
use Rattle.su_shared.specs.Seats.{SeatView}
use Rattle.su_shared.specs.Shares.{Knows}
use Rattle.su_shared.proofs.held.Held.close_in_order.Given as goal

abbrev pub invariant-loop-i : goal.invariant-loop-i
invariant-loop-i g l = record {
  held : l.self ≡ l.initial.self;
  seats : l.seats.items ≡ l.initial.seats.items;
  knows : (k : ℕ) (s : SeatView) → k < l.i → slice_get l.initial.seats.items k ≡ Some s → Knows s.known l.initial.self.records;
}
