use Rattle.std.proofs.Common.{ap, refl, subst}
use Rattle.su_client.specs.Following.{follows_itself}
use Rattle.su_client.specs.Link.{Follows, LinkState}
use Rattle.su_client_work.specs.Member.{MemberState}
use Rattle.su_client_work.proofs.Asked.{clear_back, clear_to}
use Rattle.su_client_work.proofs.Published.{own_taken}
use Rattle.su_client_work.proofs.members.Member.take_own.Goals as goal

pub returns-in_err-bytes-clause-follows : goal.returns-in_err-bytes-clause-follows
returns-in_err-bytes-clause-follows g c = follows_itself c.args.self.now.link

pub returns-in_err-accept_known-clause-clear : goal.returns-in_err-accept_known-clause-clear
returns-in_err-accept_known-clause-clear g c =
    clear_back _ c.args.self.now _ _ _ _ (ap (λ (x : MemberState). x.holding) c.self.view_is) (ap (λ (x : MemberState). x.asked) c.self.view_is) c.accept_known.ensures.asks.clear

pub returns-in_err-accept_known-clause-follows : goal.returns-in_err-accept_known-clause-follows
returns-in_err-accept_known-clause-follows g c =
    subst (λ (l : LinkState). Follows l c.accept_known.new.self.source.source.source.source.client.link) (ap (λ (x : MemberState). x.link) c.self.view_is) c.accept_known.ensures.asks.source.follows.1

pub returns-clause-clear : goal.returns-clause-clear
returns-clause-clear g c =
    clear_back _ c.args.self.now _ _ _ _ (ap (λ (x : MemberState). x.holding) c.self.view_is) (ap (λ (x : MemberState). x.asked) c.self.view_is) c.accept_known.ensures.asks.clear

pub returns-clause-follows : goal.returns-clause-follows
returns-clause-follows g c =
    subst (λ (l : LinkState). Follows l c.accept_known.new.self.source.source.source.source.client.link) (ap (λ (x : MemberState). x.link) c.self.view_is) c.accept_known.ensures.asks.source.follows.1

pub returns-clause-took : goal.returns-clause-took
returns-clause-took g c =
    let (change, given, grows) = c.in_ok-accept_known.ensures.took in
    own_taken _ c.args.self.now _ c.self.inside.view c.accept_known.new.self c.args.commit change _ (ap (λ (x : MemberState). x.holding) c.self.view_is) refl (clear_to _ _ _) grows
    (ap (λ p. p.0) c.head-number.ensures.value)
