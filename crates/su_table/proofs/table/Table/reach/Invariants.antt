use Rattle.std.proofs.Common.{◌≡◌}
use Rattle.su_table.specs.Free.{AreFronts}
use Rattle.su_table.proofs.table.Table.reach.Given as goal

abbrev pub invariant-loop : goal.invariant-loop
invariant-loop g l = AreFronts l.fn.self l.self-inside.fronts.items × (l.self-inside.tree.entries ≡ l.fn.self)
