use Rattle.std.proofs.Common.{take}
use Rattle.su_part_forest.specs.Copy.{AreCopies, IsUserCopy}
use Rattle.su_part_forest.proofs.copies.copy_users.Given as goal

abbrev pub invariant-loop-part : goal.invariant-loop-part
invariant-loop-part l = AreCopies IsUserCopy (take l.part-index l.part-items) l.copies.items
