use Rattle.std.proofs.Common.{length}
use Rattle.su_part_inverse.proofs.undos.+restore.Given as goal

abbrev pub decreases-restore : goal.decreases-restore
decreases-restore l = length l.inodes.now
