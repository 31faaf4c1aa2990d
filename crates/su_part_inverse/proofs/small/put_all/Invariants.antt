use Rattle.std.proofs.Common.{◌≡◌, ◌++◌, take}
use Rattle.std.specs.List.{AllByRecursion, flat_map}
use Rattle.su_part_inverse.proofs.small.put_all.Given as goal

abbrev pub invariant-loop-kept : goal.invariant-loop-kept
invariant-loop-kept g l = record {
  are : AllByRecursion g.K.Small.IsMeant (take l.kept-index l.all);
  written : l.writer ≡ l.initial.writer ++ flat_map g.K.Small.spelling (take l.kept-index l.all);
}
