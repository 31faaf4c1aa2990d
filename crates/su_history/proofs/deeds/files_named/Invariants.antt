use Rattle.std.proofs.Common.{◌≡◌, ◌++◌, drop}
use Rattle.su_history.specs.Line.{files_named}
use Rattle.su_history.proofs.deeds.files_named.Given as goal

abbrev pub invariant-loop-op : goal.invariant-loop-op
invariant-loop-op l = l.files.items ++ files_named (drop l.op-index l.more) ≡ files_named l.batch
