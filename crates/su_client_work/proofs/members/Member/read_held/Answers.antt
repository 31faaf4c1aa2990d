use Rattle.std.proofs.Common.{◌≡◌, ◌∙◌, Ok, ap, subst}
use Rattle.std.specs.Prelude.{IfOk}
use Rattle.su_client.specs.Link.{Follows, LinkState}
use Rattle.su_table.specs.Query.{contents_within}
use Rattle.su_view.specs.Holding.{HoldingState, tree_of_list}
use Rattle.su_client_work.specs.Member.{MemberState}
use Rattle.su_client_work.proofs.Asked.{clear_back, clear_to}
use Rattle.su_client_work.proofs.members.Member.read_held.Goals as goal

pub returns-clause-asks : goal.returns-clause-asks
returns-clause-asks g c =
    let holding = ap (λ (x : MemberState). x.holding) c.self.view_is in
    record {
      holding = c.read_at.ensures.holding ∙ holding;
      clear = clear_back _ c.args.self.now _ _ _ _ holding (ap (λ (x : MemberState). x.asked) c.self.view_is) c.read_at.ensures.asks.clear;
      signed = ap (λ (x : MemberState). x.signed) c.self.view_is;
      next = ap (λ (x : MemberState). x.next) c.self.view_is;
    }

pub returns-clause-follows : goal.returns-clause-follows
returns-clause-follows g c =
    subst (λ (l : LinkState). Follows l c.read_at.new.self.source.source.source.source.client.link) (ap (λ (x : MemberState). x.link) c.self.view_is) c.read_at.ensures.asks.source.follows.1

pub returns-clause-ok : goal.returns-clause-ok
returns-clause-ok g c = λ clear.
    subst (λ (v : HoldingState). IfOk c.read_at.result (λ bytes. contents_within (tree_of_list v) c.args.file c.args.off c.args.len ≡ Ok bytes.items)) (ap (λ (x : MemberState). x.holding) c.self.view_is)
    (c.read_at.ensures.ok (clear_to _ _ _ clear))
