use Rattle.std.proofs.Common.{◌≡◌, ℕ, List}
use Rattle.su_client.specs.Link.{GoesAhead, MayGive}
use Rattle.su_client.proofs.outboxes.Outbox.send_ahead.Given as goal

abbrev pub invariant-loop : goal.invariant-loop
invariant-loop g l =
    GoesAhead l.fn.self.client.link l.self.client.link × ((s : List ℕ) → MayGive l.self.client.link s → MayGive l.fn.self.client.link s)
    × (l.self.waiting ≡ l.fn.self.waiting) × (l.self.at_hand ≡ l.fn.self.at_hand) × (l.self.failures ≡ l.fn.self.failures)
