use Rattle.std.proofs.Common.{◌≡◌, ◌++◌, drop}
use Rattle.su_asked.specs.Asked.{homes}
use Rattle.su_asked.proofs.asking.homes.Given as goal

abbrev pub invariant-loop-file : goal.invariant-loop-file
invariant-loop-file l = l.areas.items ++ homes (drop l.file-index l.files) ≡ homes l.files
