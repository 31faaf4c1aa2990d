use Rattle.std.proofs.Common.{◌≡◌, ◌∙◌, ◌⊎◌, Err, Ok, ap, subst}
use Rattle.std.specs.Prelude.{IfErr, IfOk}
use Rattle.su_client.specs.Link.{Follows, LinkState}
use Rattle.su_plan.specs.Plan.{plan_all}
use Rattle.su_part_tree.specs.Loading.{IsLoadRefusal}
use Rattle.su_view.specs.Holding.{HoldingState, tree_of_list}
use Rattle.su_client_work.specs.Member.{MemberState}
use Rattle.su_client_work.proofs.Asked.{clear_back, clear_to}
use Rattle.su_client_work.proofs.members.Member.plan_held.Goals as goal

pub returns-clause-asks : goal.returns-clause-asks
returns-clause-asks g c =
    let holding = ap (λ (x : MemberState). x.holding) c.self.view_is in
    record {
      holding = c.plan_all.ensures.holding ∙ holding;
      clear = clear_back _ c.args.self.now _ _ _ _ holding (ap (λ (x : MemberState). x.asked) c.self.view_is) c.plan_all.ensures.asks.clear;
      signed = ap (λ (x : MemberState). x.signed) c.self.view_is;
      next = ap (λ (x : MemberState). x.next) c.self.view_is;
    }

pub returns-clause-follows : goal.returns-clause-follows
returns-clause-follows g c =
    subst (λ (l : LinkState). Follows l c.plan_all.new.self.source.source.source.source.client.link) (ap (λ (x : MemberState). x.link) c.self.view_is) c.plan_all.ensures.asks.source.follows.1

pub returns-clause-planned : goal.returns-clause-planned
returns-clause-planned g c = λ clear.
    subst (λ (v : HoldingState). IfOk c.plan_all.result (λ operations. plan_all v.roster (tree_of_list v) v.user c.args.commands.now ≡ Ok operations.items)) (ap (λ (x : MemberState). x.holding) c.self.view_is)
    (c.plan_all.ensures.planned (clear_to _ _ _ clear))

pub returns-clause-refused : goal.returns-clause-refused
returns-clause-refused g c = λ clear.
    subst (λ (v : HoldingState). IfErr c.plan_all.result (λ e. IsLoadRefusal e ⊎ (plan_all v.roster (tree_of_list v) v.user c.args.commands.now ≡ Err e))) (ap (λ (x : MemberState). x.holding) c.self.view_is)
    (c.plan_all.ensures.refused (clear_to _ _ _ clear))
