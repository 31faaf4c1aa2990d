use Rattle.su_client.specs.Link.{Follows}
use Rattle.su_client_work.specs.Member.{Stays}
use Rattle.su_client_work.proofs.members.Member.fetch_ready.Given as goal

abbrev pub invariant-loop-before : goal.invariant-loop-before
invariant-loop-before g l = record { stays : Stays l.fn.self l.self; follows : Follows l.fn.self.link l.self.link }
