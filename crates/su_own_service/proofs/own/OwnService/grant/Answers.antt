use Rattle.std.proofs.Common.{◌∙◌, sym}
use Rattle.su_own_service.proofs.OwnLemmas.{same_after_grant}
use Rattle.su_own_service.proofs.own.OwnService.grant.Goals as goal

pub invariant_of-self-2 : goal.invariant_of-self-2
invariant_of-self-2 c = c.self.invariant ∙ sym (same_after_grant _ _ _ _ c.in_ok-reply.ensures.stepped)
