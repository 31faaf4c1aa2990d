use Rattle.std.proofs.Common.{◌≡◌, map, take, vec_len}
use Rattle.std.specs.List.{range_with_len}
use Rattle.su_threads.proofs.places.in_order.Given as goal

abbrev pub invariant-loop-index : goal.invariant-loop-index
invariant-loop-index g l = (map (λ r. r.number) (take l.index l.reports.items) ≡ range_with_len 1 l.index) × (l.all.items ≡ map (λ r. r.served) (take l.index l.reports.items)) × (vec_len l.all ≡ l.index)
