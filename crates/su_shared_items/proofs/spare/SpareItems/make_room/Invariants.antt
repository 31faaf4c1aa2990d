use Rattle.std.proofs.Common.{◌≡◌, ◌-◌, ◌^◌, length}
use Rattle.su_shared_items.specs.Shard.{IsCounted}
use Rattle.su_shared_items.proofs.Counting.{IsLeft}
use Rattle.su_shared_items.proofs.spare.SpareItems.make_room.Given as goal

abbrev pub invariant-loop-self : goal.invariant-loop-self
invariant-loop-self l = record {
  counted : IsCounted l.self-inside.items.entries l.self-inside.taken l.self-inside.room;
  unbounded : l.self-inside.items.cap ≡ 2 ^ 64 - 1;
  room : l.self-inside.room ≡ l.fn.self.room;
  left : IsLeft l.size l.fn.self.room l.fn.self.items l.self-inside.items.entries;
}

abbrev pub decreases-loop-self : goal.decreases-loop-self
decreases-loop-self l = length l.self-inside.items.entries
