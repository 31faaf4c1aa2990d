use Rattle.std.proofs.Common.{All}
use Rattle.su_places.specs.Current.{RestsShut}
use Rattle.su_host.proofs.stores.Folder.open.Given as goal

abbrev pub invariant-loop-number : goal.invariant-loop-number
invariant-loop-number l = record { shut : All (λ f. RestsShut f.place) l.later.items }
