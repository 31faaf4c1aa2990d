use Rattle.std.proofs.Common.{ap, refl, subst}
use Rattle.su_client.specs.Link.{Follows, LinkState}
use Rattle.su_client_work.specs.Member.{MemberState}
use Rattle.su_client_work.proofs.Asked.{clear_back, clear_to}
use Rattle.su_client_work.proofs.Taking.{grows_found, only_grows}
use Rattle.su_client_work.proofs.members.Member.take_record.Goals as goal

pub returns-clause-takes : goal.returns-clause-takes
returns-clause-takes g c =
    let holding = ap (λ (x : MemberState). x.holding) c.self.view_is in
    let asked = ap (λ (x : MemberState). x.asked) c.self.view_is in
    only_grows _ c.args.self.now _ c.self.inside.view c.take_commit.new.view holding refl (clear_to _ _ _)
    (clear_back _ c.args.self.now _ _ _ _ holding asked c.take_commit.ensures.asks.clear)
    (ap (λ (x : MemberState). x.signed) c.self.view_is) (ap (λ (x : MemberState). x.next) c.self.view_is)
    (grows_found _ c.take_commit.result _ c.self.inside.view c.take_commit.new.view c.take_commit.ensures.took c.take_commit.ensures.err)

pub returns-clause-follows : goal.returns-clause-follows
returns-clause-follows g c =
    subst (λ (l : LinkState). Follows l c.take_commit.new.view.source.source.source.source.client.link) (ap (λ (x : MemberState). x.link) c.self.view_is) c.take_commit.ensures.asks.source.follows.1
