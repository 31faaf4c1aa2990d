use Rattle.std.proofs.Common.{◌≡◌, ◌++◌}
use Rattle.su_table.proofs.forests.Forest.copy.Given as goal

abbrev pub invariant-loop-place : goal.invariant-loop-place
invariant-loop-place l = l.inodes.entries ++ l.place-iterator ≡ l.self-inside.inodes.entries

abbrev pub invariant-loop-file : goal.invariant-loop-file
invariant-loop-file l = l.pointers.entries ++ l.file-iterator ≡ l.self-inside.pointers.entries
