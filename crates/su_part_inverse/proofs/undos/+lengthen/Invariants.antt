use Rattle.std.proofs.Common.{length}
use Rattle.su_part_inverse.proofs.undos.+lengthen.Given as goal

abbrev pub decreases-lengthen : goal.decreases-lengthen
decreases-lengthen l = length l.sizes.now
