-- 16 rounds of each turn are over, and the window has the words of the schedule before the next.
use Rattle.std.proofs.Common.{ℕ, ◌<◌, ◌*◌, List}
use Rattle.sha2.specs.Sha256.{IsRoundsAt, initial_hash_256}
use Rattle.sha_lanes.specs.Lanes.{lane, HoldsBlock}
use Rattle.sha_lanes.proofs.blocks.hash_blocks.Given as goal

abbrev pub invariant-schedule : goal.invariant-schedule
invariant-schedule l = (k : ℕ) → k < 8 → (b : List ℕ) → HoldsBlock b k l.fn.block
    → IsRoundsAt b initial_hash_256 (lane k l.window) (lane k l.state) (16 * l.turn)
