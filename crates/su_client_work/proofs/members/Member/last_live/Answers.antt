use Rattle.std.proofs.Common.{◌≡◌, ◌-◌, ◌∙◌, ℕ, List, length, ap, subst}
use Rattle.std.specs.Prelude.{slice_get}
use Rattle.std.specs.Option.{unwrap_or}
use Rattle.su_client.specs.Link.{Follows, LinkState}
use Rattle.su_desk.specs.History.{live, last_live}
use Rattle.su_legal.specs.Legal.{history}
use Rattle.su_view.specs.Holding.{HoldingState}
use Rattle.su_client_work.specs.Member.{MemberState}
use Rattle.su_client_work.proofs.Asked.{clear_back, clear_to}
use Rattle.su_client_work.proofs.LastLive.{last_is}
use Rattle.su_client_work.proofs.members.Member.last_live.Goals as goal

pub returns-in_err-live-clause-asks : goal.returns-in_err-live-clause-asks
returns-in_err-live-clause-asks g c =
    let holding = ap (λ (x : MemberState). x.holding) c.self.view_is in
    record {
      holding = c.live.ensures.holding ∙ holding;
      clear = clear_back _ c.args.self.now _ _ _ _ holding (ap (λ (x : MemberState). x.asked) c.self.view_is) c.live.ensures.asks.clear;
      signed = ap (λ (x : MemberState). x.signed) c.self.view_is;
      next = ap (λ (x : MemberState). x.next) c.self.view_is;
    }

pub returns-in_err-live-clause-follows : goal.returns-in_err-live-clause-follows
returns-in_err-live-clause-follows g c =
    subst (λ (l : LinkState). Follows l c.live.new.self.source.source.source.source.client.link) (ap (λ (x : MemberState). x.link) c.self.view_is) c.live.ensures.asks.source.follows.1

pub returns-clause-value : goal.returns-clause-value
returns-clause-value g c = λ clear.
    subst (λ (v : HoldingState). c.last_or_0.result ≡ last_live (history v.held)) (ap (λ (x : MemberState). x.holding) c.self.view_is)
    (last_is (live (history c.self.inside.view.holding.held)) c.in_ok-live.live.items c.last_or_0.result (c.in_ok-live.ensures.value (clear_to _ _ _ clear))
    (subst (λ (l : List ℕ). c.last_or_0.result ≡ unwrap_or (slice_get l (length l - 1)) 0) c.as_slice.ensures.value c.last_or_0.ensures))

pub returns-clause-asks : goal.returns-clause-asks
returns-clause-asks g c =
    let holding = ap (λ (x : MemberState). x.holding) c.self.view_is in
    record {
      holding = c.live.ensures.holding ∙ holding;
      clear = clear_back _ c.args.self.now _ _ _ _ holding (ap (λ (x : MemberState). x.asked) c.self.view_is) c.live.ensures.asks.clear;
      signed = ap (λ (x : MemberState). x.signed) c.self.view_is;
      next = ap (λ (x : MemberState). x.next) c.self.view_is;
    }

pub returns-clause-follows : goal.returns-clause-follows
returns-clause-follows g c =
    subst (λ (l : LinkState). Follows l c.live.new.self.source.source.source.source.client.link) (ap (λ (x : MemberState). x.link) c.self.view_is) c.live.ensures.asks.source.follows.1
