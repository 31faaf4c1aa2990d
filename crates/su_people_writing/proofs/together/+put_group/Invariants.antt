use Rattle.std.proofs.Common.{length}
use Rattle.su_people_writing.proofs.together.+put_group.Given as goal

abbrev pub decreases-put_group : goal.decreases-put_group
decreases-put_group g l = length l.all.now
