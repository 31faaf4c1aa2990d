use Rattle.su_inverse.proofs.InverseLemmas.{writes_kept}
use Rattle.su_inverse.proofs.laws.writes_can_be_kept.Goals as goal

pub returns : goal.returns
returns c = writes_kept
