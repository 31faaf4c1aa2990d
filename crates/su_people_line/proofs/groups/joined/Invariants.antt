use Rattle.std.proofs.Common.{◌≡◌, ◌*◌, length}
use Rattle.su_people_line.proofs.groups.joined.Given as goal

abbrev pub invariant-loop-group : goal.invariant-loop-group
invariant-loop-group l = length l.bytes.items ≡ 4 * l.group-index
