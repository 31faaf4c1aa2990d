use Rattle.std.proofs.Common.{◌≡◌}
use Rattle.su_server.proofs.connections.Connections.refuse_late.Given as goal

abbrev pub invariant-loop : goal.invariant-loop
invariant-loop g l = l.self.left ≡ l.fn.self.left
