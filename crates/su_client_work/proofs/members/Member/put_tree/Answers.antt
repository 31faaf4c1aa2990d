use Rattle.std.proofs.Common.{◌≡◌, ◌⊎◌, inl, inr, Result, Ok, Err, IfErr, ap, subst, ◌∙◌}
use Rattle.su_bytes.specs.declared.refusals.Refusal.{Refusal}
use Rattle.su_bytes.specs.declared.refusals.Refusal.TheVariants.{NoMemory, SourceFailed}
use Rattle.su_client.specs.Following.{follows_on}
use Rattle.su_client.specs.Link.{Follows, LinkState}
use Rattle.su_part_tree.specs.Loading.{IsLoadRefusal}
use Rattle.su_client_work.specs.Member.{MemberState}
use Rattle.su_client_work.proofs.Asked.{clear_back, clear_to}
use Rattle.su_client_work.proofs.members.Member.put_tree.Goals as goal

as_loads : {A : Type 0} (r : Result A Refusal) → IfErr r (λ e. (e ≡ SourceFailed) ⊎ (e ≡ NoMemory)) → IfErr r IsLoadRefusal
as_loads (Ok x) why = tt
as_loads (Err e) (inl failed) = inr (inr (inl failed))
as_loads (Err e) (inr none) = inr (inr (inr (inl none)))

pub returns-in-Err-clause-refused : goal.returns-in-Err-clause-refused
returns-in-Err-clause-refused g c = λ clear. c.in-Err.ensures.refused (clear_to _ _ _ clear)

pub returns-in-Err-clause-asks : goal.returns-in-Err-clause-asks
returns-in-Err-clause-asks g c =
    let holding = ap (λ (x : MemberState). x.holding) c.self.view_is in
    record {
      holding = c.shed.ensures.holding ∙ holding;
      clear = clear_back _ c.args.self.now _ _ _ _ holding (ap (λ (x : MemberState). x.asked) c.self.view_is) c.shed.ensures.clear;
      signed = ap (λ (x : MemberState). x.signed) c.self.view_is;
      next = ap (λ (x : MemberState). x.next) c.self.view_is;
    }

pub returns-clause-refused : goal.returns-clause-refused
returns-clause-refused g c = λ clear. as_loads c.settle.result c.settle.ensures.refused

pub returns-clause-asks : goal.returns-clause-asks
returns-clause-asks g c =
    let holding = ap (λ (x : MemberState). x.holding) c.self.view_is in
    record {
      holding = c.shed.ensures.holding ∙ holding;
      clear = clear_back _ c.args.self.now _ _ _ _ holding (ap (λ (x : MemberState). x.asked) c.self.view_is) c.shed.ensures.clear;
      signed = ap (λ (x : MemberState). x.signed) c.self.view_is;
      next = ap (λ (x : MemberState). x.next) c.self.view_is;
    }

pub returns-clause-follows : goal.returns-clause-follows
returns-clause-follows g c =
    let one = c.source_mut.ensures.value in
    let two = c.source_mut-2.ensures.value in
    let three = c.source_mut-outbox.ensures.value in
    let second : c.source_mut-outbox.result.now.client.link ≡ c.shed.new.self.source.source.source.source.client.link = cc in
    follows_on c.args.self.now.link c.shed.new.self.source.source.source.source.client.link c.settle.new.self.client.link
    (subst (λ (l : LinkState). Follows l c.shed.new.self.source.source.source.source.client.link) (ap (λ (x : MemberState). x.link) c.self.view_is) c.shed.ensures.follows.1)
    (subst (λ (l : LinkState). Follows l c.settle.new.self.client.link) second c.settle.ensures.follows)
