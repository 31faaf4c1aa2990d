use Rattle.std.proofs.Common.{◌≡◌, ap, ◌∙◌}
use Rattle.su_client_work.specs.Member.{MemberState}
use Rattle.su_client_work.proofs.Asked.{clear_back, clear_to}
use Rattle.su_client_work.proofs.members.Member.set_aside.Goals as goal

pub returns-clause-refused : goal.returns-clause-refused
returns-clause-refused g c = λ clear. c.leave_in_scratch.ensures.refused (clear_to _ _ _ clear)

pub returns-clause-asks : goal.returns-clause-asks
returns-clause-asks g c =
    let holding = ap (λ (x : MemberState). x.holding) c.self.view_is in
    record {
      holding = c.leave_in_scratch.ensures.holding ∙ holding;
      clear = clear_back _ c.args.self.now _ _ _ _ holding (ap (λ (x : MemberState). x.asked) c.self.view_is) c.leave_in_scratch.ensures.clear;
      signed = ap (λ (x : MemberState). x.signed) c.self.view_is;
      next = ap (λ (x : MemberState). x.next) c.self.view_is;
    }
