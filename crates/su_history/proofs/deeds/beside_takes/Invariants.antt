use Rattle.std.proofs.Common.{◌≡◌, [], take}
use Rattle.std.specs.List.{filter}
use Rattle.su_history.specs.Line.{is_no_take}
use Rattle.su_history.proofs.deeds.beside_takes.Given as goal

abbrev pub invariant-loop-index : goal.invariant-loop-index
invariant-loop-index l = filter is_no_take (take l.index l.more) ≡ []
