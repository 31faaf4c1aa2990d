use Rattle.su_perform.proofs.FoundLemmas as by
use Rattle.su_perform.proofs.laws.found_fits.Goals as goal

pub returns : goal.returns
returns c = by.found_fits
