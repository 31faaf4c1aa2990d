use Rattle.std.proofs.Common.{◌≡◌, ◌<◌, ℕ, Some, IfSome, slice_get}
use Rattle.su_shared.specs.Entry.{Entry}
use Rattle.su_shared.specs.Seats.{known_at}
use Rattle.su_shared.proofs.held.check_all.Given as goal

abbrev pub invariant-loop-i : goal.invariant-loop-i
invariant-loop-i g l = record {
  receipts : l.receipts.items ≡ l.initial.receipts.items;
  seat : l.seat ≡ l.initial.seat;
  knows : (k : ℕ) (r : Entry) → k < l.i → slice_get l.initial.receipts.items k ≡ Some r → IfSome (known_at l.initial.seat.known r.number) (λ x. x ≡ r);
}
