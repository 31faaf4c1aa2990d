use Rattle.su_client.specs.Link.{Follows}
use Rattle.su_client_work.specs.Member.{OnlyTakes}
use Rattle.su_client_work.specs.Turn.{IsCaughtUp}
use Rattle.su_client_work.proofs.members.Member.take_many.Given as goal

abbrev pub invariant-loop-before : goal.invariant-loop-before
invariant-loop-before g l = record {
  takes : OnlyTakes l.fn.self l.self;
  follows : Follows l.fn.self.link l.self.link;
  caught_up : IsCaughtUp l.before l.self.holding l.fn.self.link l.self.link;
}
