use Rattle.std.proofs.Common.{◌∙◌, sym}
use Rattle.su_own_service.proofs.OwnLemmas.{same_after_give}
use Rattle.su_own_service.proofs.own.OwnService.give.Goals as goal

pub invariant_of-self-2 : goal.invariant_of-self-2
invariant_of-self-2 c = c.self.invariant ∙ sym (same_after_give _ _ _ _ c.in_ok-reply.ensures.stepped)
