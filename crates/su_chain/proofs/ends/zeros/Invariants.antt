use Rattle.std.proofs.Common.{◌≡◌, map, take}
use Rattle.su_chain.proofs.ends.zeros.Given as goal

abbrev pub invariant-loop : goal.invariant-loop
invariant-loop l = l.numbers.items ≡ map (λ p. 0) (take l.index l.items)
