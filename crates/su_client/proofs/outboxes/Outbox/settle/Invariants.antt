use Rattle.std.proofs.Common.{◌≡◌, ℕ, List, ◌++◌}
use Rattle.su_client.specs.Link.{Follows, MayGive}
use Rattle.su_client.specs.Outbox.{contents}
use Rattle.su_client.proofs.Ahead.{ArePut}
use Rattle.su_client.proofs.outboxes.Outbox.settle.Given as goal

-- some were put, and the others wait
abbrev pub invariant-loop-alloc : goal.invariant-loop-alloc
invariant-loop-alloc g l =
    ArePut (contents l.fn.self.waiting.items) l.fn.self.client.link (contents l.self.waiting.items) l.self.client.link
    × Follows l.fn.self.client.link l.self.client.link
    × ((s : List ℕ) → MayGive l.self.client.link s → MayGive l.fn.self.client.link s)
    × (l.self.at_hand ≡ l.fn.self.at_hand) × (l.self.failures ≡ l.fn.self.failures)

abbrev pub decreases-loop-alloc : goal.decreases-loop-alloc
decreases-loop-alloc g l = l.self.waiting.len
