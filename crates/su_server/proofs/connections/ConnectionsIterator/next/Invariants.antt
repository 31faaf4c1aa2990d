use Rattle.std.proofs.Common.{◌≡◌, ◌+◌}
use Rattle.su_server.proofs.connections.ConnectionsIterator.next.Given as goal

abbrev pub invariant-loop : goal.invariant-loop
invariant-loop g l = l.self.left + 1 ≡ l.fn.self.left
