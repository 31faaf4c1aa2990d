use Rattle.std.proofs.Common.{ap, ◌∙◌}
use Rattle.su_client_work.specs.Member.{MemberState}
use Rattle.su_client_work.proofs.Working.{one_key_more}
use Rattle.su_client_work.proofs.members.Member.replace_key.Goals as goal

pub returns : goal.returns
returns g c =
    let keys = one_key_more _ _ _ c.replace.ensures.former _ (ap (λ (x : MemberState). x.next.keys) c.self.view_is) in
    record {
      holding = ap (λ (x : MemberState). x.holding) c.self.view_is;
      link = ap (λ (x : MemberState). x.link) c.self.view_is;
      asked = ap (λ (x : MemberState). x.asked) c.self.view_is;
      signed = c.replace.ensures.signed ∙ ap (λ (x : MemberState). x.signed) c.self.view_is;
      next = λ i. record { keys = keys i; leaf = c.replace.ensures.next i };
    }
