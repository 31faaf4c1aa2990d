use Rattle.std.proofs.Common.{◌≡◌, take}
use Rattle.su_table.proofs.tables.Tables.copy.Given as goal

abbrev pub invariant-loop-table : goal.invariant-loop-table
invariant-loop-table g l = l.tables.items ≡ take l.table-index l.table-items
