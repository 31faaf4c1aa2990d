use Rattle.su_client.specs.Link.{Follows}
use Rattle.su_client_work.specs.Member.{OnlyAsks}
use Rattle.su_people_session.proofs.walks.stats_of.Given as goal

abbrev pub invariant-loop-file : goal.invariant-loop-file
invariant-loop-file g l = record { asks : OnlyAsks l.fn.member l.member; follows : Follows l.fn.member.link l.member.link }
