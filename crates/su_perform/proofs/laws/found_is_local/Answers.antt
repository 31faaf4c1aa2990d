use Rattle.su_perform.proofs.FoundLemmas as by
use Rattle.su_perform.proofs.laws.found_is_local.Goals as goal

pub returns : goal.returns
returns c = by.found_is_local
