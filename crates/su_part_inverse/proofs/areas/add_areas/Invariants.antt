use Rattle.std.proofs.Common.{◌≡◌, ◌++◌, map, take}
use Rattle.su_part_inverse.proofs.areas.add_areas.Given as goal

abbrev pub invariant-loop-kept : goal.invariant-loop-kept
invariant-loop-kept g l = l.areas.items ≡ l.initial.areas.items ++ map g.K.OfArea.stood_in (take l.kept-index l.all)
