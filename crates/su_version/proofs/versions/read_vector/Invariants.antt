use Rattle.su_format.proofs.Public.{GoesOn}
use Rattle.su_version.specs.Version.{number_format}
use Rattle.su_version.proofs.versions.read_vector.Given as goal

abbrev pub invariant-loop : goal.invariant-loop
invariant-loop l = GoesOn number_format (λ _. 0) l.size 0 l.initial.reader l.counter 0 l.reader l.numbers.items
