use Rattle.std.specs.Prelude.{Ok}
use Rattle.su_part_inverse.specs.Lefts.{Leaves}
use Rattle.su_part_inverse.proofs.inverses.Inverse.leave_inodes.Given as goal

abbrev pub invariant-loop-at : goal.invariant-loop-at
invariant-loop-at g l = Leaves {A = Unit {0}} g.S.BlockSource.may_give g.S.BlockSource.follows l.fn.self l.self l.fn.source l.source (Ok tt)
