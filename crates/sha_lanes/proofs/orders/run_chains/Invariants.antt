-- Each chain ends where it would have, and those of the groups before have ended.
use Rattle.std.proofs.Common.{◌≡◌, ◌<◌, ◌*◌, ℕ, length}
use Rattle.sha_lanes.specs.Run.{IsOrder, RunsOn, place_in, run_at}
use Rattle.sha_lanes.proofs.orders.run_chains.Given as goal

abbrev pub invariant-loop-group : goal.invariant-loop-group
invariant-loop-group l = record {
  size : length l.runs ≡ length l.fn.runs;
  order_size : length l.order ≡ length l.runs;
  order : IsOrder l.order;
  on : (k : ℕ) → RunsOn (run_at l.fn.runs k) (run_at l.runs k);
  ended : (p : ℕ) → p < 8 * l.group → (run_at l.runs (place_in l.order p)).left ≡ 0;
}
