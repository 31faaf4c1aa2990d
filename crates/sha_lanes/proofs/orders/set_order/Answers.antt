use Rattle.std.proofs.Common.{arith}
use Rattle.sha_lanes.proofs.Ordering.{is_order}
use Rattle.sha_lanes.proofs.orders.set_order.Goals as goal

pub returns : goal.returns
returns c = is_order c.loop-k.order c.sort_unstable.new.self c.sort_unstable.ensures.permutation c.sort_unstable.ensures.len (λ p low. c.loop-k.invariant p (omega arith))
