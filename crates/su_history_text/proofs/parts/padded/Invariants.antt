use Rattle.std.proofs.Common.{◌≡◌, ◌-◌, ◌++◌, length, min, replicate}
use Rattle.std.specs.String.{string_bytes}
use Rattle.su_history_text.proofs.parts.padded.Given as goal

-- the spaces so far
abbrev pub invariant-loop-place : goal.invariant-loop-place
invariant-loop-place l = string_bytes l.text ≡ string_bytes l.fn.text ++ replicate (min l._place l.fn.width - length (string_bytes l.fn.text)) 32
