use Rattle.std.proofs.Common.{◌≡◌, drop, max}
use Rattle.su_history_text.specs.Parts.{longest_name}
use Rattle.su_history_text.proofs.parts.longest_name.Given as goal

-- with those that are left
abbrev pub invariant-loop-number : goal.invariant-loop-number
invariant-loop-number l = max l.longest (longest_name (drop l.number l.team)) ≡ longest_name l.team
