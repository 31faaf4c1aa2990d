use Rattle.std.proofs.Common.{◌≡◌, Some, length}
use Rattle.su_spelling.specs.Read.{joined, read, read_from}
use Rattle.su_spelling.proofs.reading.read.Given as goal

-- what was read, and what will be of the text that is left
abbrev pub invariant-loop-left : goal.invariant-loop-left
invariant-loop-left l = joined (Some l.name.items) (read_from 0 l.left) ≡ read l.fn.text

abbrev pub decreases-loop-left : goal.decreases-loop-left
decreases-loop-left l = length l.left
