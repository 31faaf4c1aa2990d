use Rattle.su_team.proofs.KeptTimes.{kept_time}
use Rattle.su_team.proofs.laws.kept_times_are_found.Goals as goal

pub returns : goal.returns
returns c = kept_time
