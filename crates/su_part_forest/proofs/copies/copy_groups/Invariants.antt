use Rattle.std.proofs.Common.{take}
use Rattle.su_part_forest.specs.Copy.{AreCopies, IsGroupCopy}
use Rattle.su_part_forest.proofs.copies.copy_groups.Given as goal

abbrev pub invariant-loop-part : goal.invariant-loop-part
invariant-loop-part l = AreCopies IsGroupCopy (take l.part-index l.part-items) l.copies.items
