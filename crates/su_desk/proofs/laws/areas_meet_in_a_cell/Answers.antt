use Rattle.su_desk.proofs.Blockers.{meet_exact}
use Rattle.su_desk.proofs.laws.areas_meet_in_a_cell.Goals as goal

pub returns : goal.returns
returns c = meet_exact
