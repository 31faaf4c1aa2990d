use Rattle.su_client.specs.Link.{Follows}
use Rattle.su_client.proofs.links.Link.pass_ahead.Given as goal

abbrev pub invariant-loop : goal.invariant-loop
invariant-loop g l = Follows l.fn.self l.self
