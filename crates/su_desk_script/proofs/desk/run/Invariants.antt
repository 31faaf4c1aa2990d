use Rattle.std.proofs.Common.{◌≡◌, ℕ, List, Some}
use Rattle.su_desk_lines.specs.Unread.{unread}
use Rattle.su_desk_script.specs.Step.{Continues}
use Rattle.su_desk_script.proofs.desk.run.Given as goal

abbrev pub invariant-loop-number : goal.invariant-loop-number
invariant-loop-number g l =
    (input before : List ℕ) → unread g.R.Read.remaining l.fn.lines ≡ Some input → g.W.Write.contents l.fn.writer ≡ Some before
    → Continues l.fn.session 1 input before l.session l.number (unread g.R.Read.remaining l.lines) (g.W.Write.contents l.writer)
