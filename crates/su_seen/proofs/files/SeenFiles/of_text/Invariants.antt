use Rattle.std.proofs.Common.{length}
use Rattle.su_seen.proofs.FileLines.{GoesOn, IsToldBefore}
use Rattle.su_seen.proofs.files.SeenFiles.of_text.Given as goal

-- what the lines tell that were taken, and what those behind them will
abbrev pub invariant-loop-left : goal.invariant-loop-left
invariant-loop-left l = IsToldBefore l.fn.text l.files l.left × GoesOn l.fn.text l.files l.left

abbrev pub decreases-loop-left : goal.decreases-loop-left
decreases-loop-left l = length l.left
