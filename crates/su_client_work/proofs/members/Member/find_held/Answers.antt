use Rattle.std.proofs.Common.{◌≡◌, ◌∙◌, ◌⊎◌, Err, Ok, ap, subst}
use Rattle.std.specs.Prelude.{IfErr, IfOk}
use Rattle.su_client.specs.Link.{Follows, LinkState}
use Rattle.su_draft.specs.Walk.{found}
use Rattle.su_part_tree.specs.Loading.{IsLoadRefusal}
use Rattle.su_view.specs.Holding.{HoldingState, tree_of_list}
use Rattle.su_client_work.specs.Member.{MemberState}
use Rattle.su_client_work.proofs.Asked.{clear_back, clear_to}
use Rattle.su_client_work.proofs.members.Member.find_held.Goals as goal

pub returns-clause-asks : goal.returns-clause-asks
returns-clause-asks g c =
    let holding = ap (λ (x : MemberState). x.holding) c.self.view_is in
    record {
      holding = c.find.ensures.holding ∙ holding;
      clear = clear_back _ c.args.self.now _ _ _ _ holding (ap (λ (x : MemberState). x.asked) c.self.view_is) c.find.ensures.asks.clear;
      signed = ap (λ (x : MemberState). x.signed) c.self.view_is;
      next = ap (λ (x : MemberState). x.next) c.self.view_is;
    }

pub returns-clause-follows : goal.returns-clause-follows
returns-clause-follows g c =
    subst (λ (l : LinkState). Follows l c.find.new.self.source.source.source.source.client.link) (ap (λ (x : MemberState). x.link) c.self.view_is) c.find.ensures.asks.source.follows.1

pub returns-clause-found : goal.returns-clause-found
returns-clause-found g c = λ clear.
    subst (λ (v : HoldingState). IfOk c.find.result (λ file. found (tree_of_list v) c.args.path.now ≡ Ok file)) (ap (λ (x : MemberState). x.holding) c.self.view_is)
    (c.find.ensures.found (clear_to _ _ _ clear))

pub returns-clause-refused : goal.returns-clause-refused
returns-clause-refused g c = λ clear.
    subst (λ (v : HoldingState). IfErr c.find.result (λ e. IsLoadRefusal e ⊎ (found (tree_of_list v) c.args.path.now ≡ Err e))) (ap (λ (x : MemberState). x.holding) c.self.view_is)
    (c.find.ensures.refused (clear_to _ _ _ clear))
