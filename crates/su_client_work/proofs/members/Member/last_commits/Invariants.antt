use Rattle.std.proofs.Common.{[], take}
use Rattle.su_client.specs.Link.{Follows}
use Rattle.su_client_work.specs.Member.{Stays}
use Rattle.su_client_work.specs.Turn.{AreShown}
use Rattle.su_client_work.proofs.members.Member.last_commits.Given as goal

abbrev pub invariant-loop-index : goal.invariant-loop-index
invariant-loop-index g l = record {
  stays : Stays l.fn.self l.self;
  follows : Follows l.fn.self.link l.self.link;
  shown : AreShown (take l.index l.last) [] l.fn.self.link l.shown.commits.items l.self.link;
}
