use Rattle.std.proofs.Common.{◌≡◌, ◌+◌, ◌-◌, false}
use Rattle.su_book.specs.Machine.{count_of}
use Rattle.su_shared.proofs.TakingUp.{Takes}
use Rattle.su_shared.proofs.locked.Opening.take_up.Given as goal

abbrev pub invariant-loop-number : goal.invariant-loop-number
invariant-loop-number g l = record {
  count : count_of l.self.held.book.journal + 1 ≡ l.number;
  seat : l.seat.number ≡ l.initial.seat.number;
  stored : l.seat.kept.stored + 1 ≡ l.initial.seat.kept.stored + l.number;
  turn : l.seat.kept.turn ≡ false;
  takes : Takes g.K.Keeper.found g.K.Keeper.is_clean l.initial.self.keeper (l.number - 1) l.self.held.records l.seat.known l.self.keeper;
}
