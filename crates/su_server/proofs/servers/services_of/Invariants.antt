use Rattle.std.proofs.Common.{◌≡◌, vec_len}
use Rattle.su_server.proofs.servers.services_of.Given as goal

abbrev pub invariant-loop : goal.invariant-loop
invariant-loop g l = vec_len l.services ≡ l.counter
