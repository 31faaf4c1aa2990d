-- Each chain has gone as many steps as turns are over, up to its own number of steps.
use Rattle.std.proofs.Common.{ℕ, ◌<◌, ◌≤◌, ◌+◌, min, List, slice_index}
use Rattle.sha_lanes.specs.Chain.{chain}
use Rattle.sha_lanes.specs.Lanes.{HoldsPlace, HoldsValue}
use Rattle.sha_lanes.proofs.steps.run.Given as goal

abbrev pub invariant-loop-turn : goal.invariant-loop-turn
invariant-loop-turn l = (k : ℕ) → k < 8 → slice_index l.from k + slice_index l.left k ≤ 256
    → (place start : List ℕ) → HoldsPlace place k l.leaf l.index → HoldsValue start k l.value
    → HoldsValue (chain place (slice_index l.from k) (min l.turn (slice_index l.left k)) start) k l.now
