use Rattle.std.proofs.Common.{◌≡◌, length}
use Rattle.su_part_inverse.proofs.SmallReads.{AreTaken}
use Rattle.su_part_inverse.proofs.small.take_all.Given as goal

abbrev pub invariant-loop-taken : goal.invariant-loop-taken
invariant-loop-taken g l = record {
  number : length l.all.items ≡ l._taken;
  taken : AreTaken g.K.Small.IsMeant g.K.Small.spelling l.count l.fn.reader.left l.all.items l.reader.left;
}
