use Rattle.std.proofs.Common.{◌≤◌, ◌-◌, ◌*◌, ◌+◌}
use Rattle.su_table.specs.Free.{HasAll}
use Rattle.su_table.proofs.table.Table.lengthen.Given as goal

abbrev pub invariant-loop-front : goal.invariant-loop-front
invariant-loop-front g l = HasAll l.fn.self (l.block * 1024 + 1) (l.block * 1024 + 1 + l.front) × (l.front ≤ 1024)

abbrev pub decreases-loop-front : goal.decreases-loop-front
decreases-loop-front g l = 1024 - l.front
