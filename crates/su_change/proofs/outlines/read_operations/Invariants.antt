use Rattle.su_format.proofs.Public.{GoesOn}
use Rattle.su_change.specs.Outline.{outlined_op}
use Rattle.su_change.proofs.outlines.read_operations.Given as goal

abbrev pub invariant-loop : goal.invariant-loop
invariant-loop l = GoesOn (λ _. outlined_op) (λ _. 0) l.count 0 l.fn.reader l.counter 0 l.reader l.batch
