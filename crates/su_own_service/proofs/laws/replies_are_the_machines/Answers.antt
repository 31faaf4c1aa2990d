use Rattle.su_own_service.proofs.AnswerLemmas.{replies_once}
use Rattle.su_own_service.proofs.laws.replies_are_the_machines.Goals as goal

pub returns : goal.returns
returns c = replies_once c.one_answer.ensures.act c.one_answer.ensures.refusal c.one_answer.ensures.either
