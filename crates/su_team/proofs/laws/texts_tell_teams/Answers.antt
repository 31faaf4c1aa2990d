use Rattle.su_team.proofs.WholeTexts.{same_teams}
use Rattle.su_team.proofs.laws.texts_tell_teams.Goals as goal

pub returns : goal.returns
returns c = same_teams
