use Rattle.su_book.proofs.AnswerLemmas.{one_act, one_refused, not_both}
use Rattle.su_book.proofs.laws.one_answer.Goals as goal

pub returns : goal.returns
returns c = record { act = one_act; refusal = one_refused; either = not_both }
