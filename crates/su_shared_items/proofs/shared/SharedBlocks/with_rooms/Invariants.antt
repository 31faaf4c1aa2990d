use Rattle.std.proofs.Common.{◌≡◌, vec_len}
use Rattle.su_shared_items.proofs.shared.SharedBlocks.with_rooms.Given as goal

abbrev pub invariant-loop : goal.invariant-loop
invariant-loop l = vec_len l.shards ≡ l.counter
