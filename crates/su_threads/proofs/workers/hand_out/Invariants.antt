use Rattle.std.proofs.Common.{◌≡◌, length}
use Rattle.su_threads.proofs.workers.hand_out.Given as goal

abbrev pub invariant-loop-link : goal.invariant-loop-link
invariant-loop-link g l =
    (goal.iterator-loop-link g).can_next l.link-iterator × (goal.iterator-loop-link g).is_finite l.link-iterator × (length l.yielded ≡ l.count)
