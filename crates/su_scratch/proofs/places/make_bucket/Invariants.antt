use Rattle.std.proofs.Common.{◌≡◌, ◌+◌, ◌-◌, ℕ, length}
use Rattle.su_scratch.specs.Places.{bucket_at}
use Rattle.su_scratch.proofs.places.make_bucket.Given as goal

abbrev pub invariant-loop-alloc : goal.invariant-loop-alloc
invariant-loop-alloc l = (i : ℕ) → bucket_at l.buckets.items i ≡ bucket_at l.fn.buckets.items i

abbrev pub decreases-loop-alloc : goal.decreases-loop-alloc
decreases-loop-alloc l = (l.index + 1) - length l.buckets.items
