use Rattle.std.proofs.Common.{◌≡◌}
use Rattle.su_person.proofs.steps.together.Given as goal

abbrev pub invariant-loop-command : goal.invariant-loop-command
invariant-loop-command l = l.count ≡ l.command-index
