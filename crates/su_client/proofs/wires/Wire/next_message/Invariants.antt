use Rattle.su_client.specs.Asking.{Joins}
use Rattle.su_client.proofs.wires.Wire.next_message.Given as goal

abbrev pub invariant-loop : goal.invariant-loop
invariant-loop g l = Joins l.fn.self l.self
