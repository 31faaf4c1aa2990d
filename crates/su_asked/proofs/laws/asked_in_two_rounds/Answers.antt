use Rattle.su_asked.proofs.AskedLemmas as by
use Rattle.su_asked.proofs.laws.asked_in_two_rounds.Goals as goal

pub returns : goal.returns
returns c = by.asked_in_two_rounds
