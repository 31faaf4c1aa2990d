use Rattle.std.proofs.Common.{◌≡◌, ◌∙◌, ◌⊎◌, Err, Ok, ap, subst}
use Rattle.std.specs.Prelude.{IfErr, IfOk}
use Rattle.su_client.specs.Link.{Follows, LinkState}
use Rattle.su_table.specs.Query.{listing}
use Rattle.su_part_tree.specs.Loading.{IsLoadRefusal}
use Rattle.su_view.specs.Holding.{HoldingState, tree_of_list}
use Rattle.su_client_work.specs.Member.{MemberState}
use Rattle.su_client_work.proofs.Asked.{clear_back, clear_to}
use Rattle.su_client_work.proofs.members.Member.list_held.Goals as goal

pub returns-clause-asks : goal.returns-clause-asks
returns-clause-asks g c =
    let holding = ap (λ (x : MemberState). x.holding) c.self.view_is in
    record {
      holding = c.list.ensures.holding ∙ holding;
      clear = clear_back _ c.args.self.now _ _ _ _ holding (ap (λ (x : MemberState). x.asked) c.self.view_is) c.list.ensures.asks.clear;
      signed = ap (λ (x : MemberState). x.signed) c.self.view_is;
      next = ap (λ (x : MemberState). x.next) c.self.view_is;
    }

pub returns-clause-follows : goal.returns-clause-follows
returns-clause-follows g c =
    subst (λ (l : LinkState). Follows l c.list.new.self.source.source.source.source.client.link) (ap (λ (x : MemberState). x.link) c.self.view_is) c.list.ensures.asks.source.follows.1

pub returns-clause-ok : goal.returns-clause-ok
returns-clause-ok g c = λ clear.
    subst (λ (v : HoldingState). IfOk c.list.result (λ names. listing (tree_of_list v) c.args.file ≡ Ok names.items)) (ap (λ (x : MemberState). x.holding) c.self.view_is)
    (c.list.ensures.ok (clear_to _ _ _ clear))

pub returns-clause-refused : goal.returns-clause-refused
returns-clause-refused g c = λ clear.
    subst (λ (v : HoldingState). IfErr c.list.result (λ e. IsLoadRefusal e ⊎ (listing (tree_of_list v) c.args.file ≡ Err e))) (ap (λ (x : MemberState). x.holding) c.self.view_is)
    (c.list.ensures.refused (clear_to _ _ _ clear))
