use Rattle.std.specs.BTreeMap.{btree_map_len}
use Rattle.std.specs.Prelude.{Ok}
use Rattle.su_part.specs.Sheds.{ShedsUser}
use Rattle.su_part.proofs.users.UserPart.shed_inodes.Given as goal

abbrev pub invariant-loop-number : goal.invariant-loop-number
invariant-loop-number g l = ShedsUser {A = Unit {0}} g.S.BlockSource.may_give g.S.BlockSource.failed g.S.BlockSource.follows g.S.BlockSource.puts l.fn.self l.self l.fn.source l.source (Ok tt)

abbrev pub decreases-loop-number : goal.decreases-loop-number
decreases-loop-number g l = btree_map_len l.self.inodes
