use Rattle.su_history.proofs.LawLemmas.{all_told}
use Rattle.su_history.proofs.laws.live_lines_are_live.Goals as goal

pub returns : goal.returns
returns c = all_told
