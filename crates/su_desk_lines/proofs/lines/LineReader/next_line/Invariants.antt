use Rattle.su_desk_lines.specs.Unread.{unread}
use Rattle.su_desk_lines.specs.Lines.{Partly}
use Rattle.su_desk_lines.proofs.lines.LineReader.next_line.Given as goal

abbrev pub invariant-loop-line : goal.invariant-loop-line
invariant-loop-line g l = Partly l.line.items (unread g.R.Read.remaining l.fn.self) (unread g.R.Read.remaining l.self)

abbrev pub decreases-loop-line : goal.decreases-loop-line
decreases-loop-line g l = l.self.reads_left
