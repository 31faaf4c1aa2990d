use Rattle.su_client.specs.Link.{Follows}
use Rattle.su_client_work.specs.Member.{Stays}
use Rattle.su_client_work.proofs.members.Member.send_rest.Given as goal

abbrev pub invariant-loop-number : goal.invariant-loop-number
invariant-loop-number g l = record { stays : Stays l.fn.self l.self; follows : Follows l.fn.self.link l.self.link }
