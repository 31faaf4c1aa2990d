use Rattle.std.proofs.Common.{◌≡◌, replicate}
use Rattle.su_desk_script.proofs.desk.zero_keys.Given as goal

abbrev pub invariant-loop-number : goal.invariant-loop-number
invariant-loop-number l = l.keys.items ≡ replicate l._number (replicate 56 0)
