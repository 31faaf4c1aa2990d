use Rattle.std.proofs.Common.{◌≡◌, take}
use Rattle.su_legal.specs.Legal.{history}
use Rattle.su_why.proofs.entries.entries_of.Given as goal

abbrev pub invariant-loop-before : goal.invariant-loop-before
invariant-loop-before g l = l.entries.items ≡ take l.before (history l.view.holding.held)
