use Rattle.std.proofs.Common.{◌≡◌, [], replicate}
use Rattle.su_table.proofs.tables.Tables.empty.Given as goal

abbrev pub invariant-loop : goal.invariant-loop
invariant-loop g l = l.tables.items ≡ replicate l.counter []
