use Rattle.su_desk.proofs.VersionNumbers.{carried_listed, carried_ascend}
use Rattle.su_desk.proofs.laws.carried_groups_are_listed.Goals as goal

pub returns-clause-listed : goal.returns-clause-listed
returns-clause-listed c = carried_listed

pub returns-clause-ascending : goal.returns-clause-ascending
returns-clause-ascending c = carried_ascend
