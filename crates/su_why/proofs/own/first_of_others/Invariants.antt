use Rattle.std.proofs.Common.{take}
use Rattle.su_why.specs.Own.{AreMadeBy}
use Rattle.su_why.proofs.own.first_of_others.Given as goal

abbrev pub invariant-loop-number : goal.invariant-loop-number
invariant-loop-number l = AreMadeBy l.entries l.user (take l.number-index l.numbers)
