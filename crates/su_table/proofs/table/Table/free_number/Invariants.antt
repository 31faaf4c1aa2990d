use Rattle.std.proofs.Common.{◌≤◌, ◌-◌}
use Rattle.su_table.specs.Free.{HasAll}
use Rattle.su_table.proofs.table.Table.free_number.Given as goal

abbrev pub invariant-loop-number : goal.invariant-loop-number
invariant-loop-number g l = HasAll l.fn.self l.fn.from_ l.number × (l.fn.from_ ≤ l.number)

abbrev pub decreases-loop-number : goal.decreases-loop-number
decreases-loop-number g l = 1000001 - l.number
