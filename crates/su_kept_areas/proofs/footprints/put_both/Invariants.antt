use Rattle.std.proofs.Common.{take}
use Rattle.su_kept_areas.proofs.FewLemmas.{AreAhead, AreAsLong}
use Rattle.su_kept_areas.proofs.SidedLemmas.{ArePutUpTo}
use Rattle.su_kept_areas.proofs.footprints.put_both.Given as goal

abbrev pub invariant-loop-area : goal.invariant-loop-area
invariant-loop-area l = record {
  put : ArePutUpTo l.initial.writer l.writer (take l.area-index l.reads) l.writes l.left;
  ahead : AreAhead l.reads l.writes l.left l.area-index;
  long : AreAsLong l.initial.writer l.writer (take l.area-index l.reads);
}
