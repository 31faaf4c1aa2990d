use Rattle.std.proofs.Common.{[], take}
use Rattle.su_kept_areas.specs.Kept.{IsPut}
use Rattle.su_kept_areas.proofs.footprints.put_written.Given as goal

abbrev pub invariant-loop-area : goal.invariant-loop-area
invariant-loop-area l = IsPut l.initial.writer l.writer [] (take l.area-index l.areas)
