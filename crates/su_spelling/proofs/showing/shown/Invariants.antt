use Rattle.std.proofs.Common.{◌≡◌, ◌++◌, length}
use Rattle.std.specs.String.{string_bytes}
use Rattle.su_spelling.specs.Shown.{shown, shown_from}
use Rattle.su_spelling.proofs.showing.shown.Given as goal

-- what is shown so far, and what will be of the bytes that are left
abbrev pub invariant-loop-left : goal.invariant-loop-left
invariant-loop-left l = string_bytes l.text ++ shown_from 0 l.left ≡ shown l.fn.name

abbrev pub decreases-loop-left : goal.decreases-loop-left
decreases-loop-left l = length l.left
