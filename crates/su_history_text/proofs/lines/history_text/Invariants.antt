use Rattle.std.proofs.Common.{take}
use Rattle.std.specs.String.{string_bytes}
use Rattle.su_history_text.proofs.SoFar.{IsToldOf}
use Rattle.su_history_text.proofs.lines.history_text.Given as goal

abbrev pub invariant-loop-line : goal.invariant-loop-line
invariant-loop-line l = IsToldOf l.team l.names (take l.line-index l.lines) (string_bytes l.text)
