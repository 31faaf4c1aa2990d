use Rattle.std.proofs.Common.{◌<◌, ◌+◌, sym, arith}
use Rattle.su_shared_items.specs.Shard.{bytes_of}
use Rattle.su_shared_items.proofs.Counting.{counted-last, one_less}
use Rattle.su_shared_items.proofs.spare.SpareItems.make_room.Goals as goal

pub overflow_sub-self : goal.overflow_sub-self
overflow_sub-self c =
    let last = counted-last c.loop-self.self-inside.items.entries (c.in-Some.field-0-0, c.in-Some.item) c.loop-self.self-inside.taken c.loop-self.self-inside.room c.loop-self.invariant.counted (sym c.in-Some.ensures.value) in
    rw c.cost.ensures last.0

pub loop-self-preserved : goal.loop-self-preserved
loop-self-preserved c =
    let last = counted-last c.loop-self.self-inside.items.entries (c.in-Some.field-0-0, c.in-Some.item) c.loop-self.self-inside.taken c.loop-self.self-inside.room c.loop-self.invariant.counted (sym c.in-Some.ensures.value) in
    let full : c.args.self.now.room < bytes_of c.loop-self.self-inside.items.entries + c.args.size = omega (arith, c.loop-self-test.true, c.loop-self.invariant.room, c.loop-self.invariant.counted.counted) in
    record {
      counted = rw (c.pop_lru.ensures.entries, c.cost.ensures) last.2;
      unbounded = rw c.pop_lru.ensures.entries c.loop-self.invariant.unbounded;
      room = c.loop-self.invariant.room;
      left = rw c.pop_lru.ensures.entries (one_less c.args.size c.args.self.now.room c.args.self.now.items c.loop-self.self-inside.items.entries c.loop-self.invariant.left last.1 full);
    }
