use Rattle.std.proofs.Common.{◌≡◌, ◌<◌, ◌^◌, map, take}
use Rattle.std.specs.List.{AllByRecursion}
use Rattle.su_view.proofs.views.drafts.vector_of.Given as goal

abbrev pub invariant-loop-version : goal.invariant-loop-version
invariant-loop-version l =
    (l.numbers.items ≡ map (λ n. n.1) (take l.version-index l.versions)) × AllByRecursion (λ n. n < 2 ^ 64) l.numbers.items
