use Rattle.std.proofs.Common.{◌∙◌, sym}
use Rattle.su_frames.proofs.Cutting.{one_cut}
use Rattle.su_frames.proofs.laws.one_cut.Goals as goal

pub returns : goal.returns
returns c = λ bytes rest last taken all p q r. one_cut rest last taken all p.each q.each (sym p.whole ∙ q.whole) r
