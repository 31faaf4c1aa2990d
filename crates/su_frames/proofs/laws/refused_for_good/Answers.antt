use Rattle.su_frames.proofs.Cutting.{refused_for_good}
use Rattle.su_frames.proofs.laws.refused_for_good.Goals as goal

pub returns : goal.returns
returns c = λ bytes more e f. refused_for_good bytes more e f
