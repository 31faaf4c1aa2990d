use Rattle.su_team.proofs.GroupLemmas.{same_digests}
use Rattle.su_team.proofs.laws.groups_tell_digests.Goals as goal

pub returns : goal.returns
returns c = same_digests
