-- The keys of the leaves before stand at their places.
use Rattle.std.proofs.Common.{◌≡◌, ℕ, ◌<◌, ◌+◌, ◌*◌, [], length, get_or}
use Rattle.sha_lanes.specs.Run.{run_at}
use Rattle.su_lms.specs.OneTime.{hash_of_ends}
use Rattle.su_lms.proofs.one_time.keys_of_ends.Given as goal

abbrev pub invariant-loop-l : goal.invariant-loop-l
invariant-loop-l l = record {
  size : length l.keys ≡ 8;
  each : (k : ℕ) → k < l.l → get_or l.keys k [] ≡ hash_of_ends l.ots l.id (l.q + k) (λ i. (run_at l.ends (k * l.count + i)).value);
}
