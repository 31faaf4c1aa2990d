-- Each number so far has its own place as its low 16 bits.
use Rattle.std.proofs.Common.{◌≡◌, ◌<◌, ◌%◌, ◌^◌, ℕ, slice_index}
use Rattle.sha_lanes.proofs.orders.set_order.Given as goal

abbrev pub invariant-loop-k : goal.invariant-loop-k
invariant-loop-k l = (p : ℕ) → p < l.k → slice_index l.order p % 2 ^ 16 ≡ p
