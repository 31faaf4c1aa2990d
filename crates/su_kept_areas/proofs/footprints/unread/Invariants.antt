use Rattle.su_kept_areas.proofs.FewLemmas.{AreAhead}
use Rattle.su_kept_areas.proofs.footprints.unread.Given as goal

abbrev pub invariant-loop-area : goal.invariant-loop-area
invariant-loop-area l = AreAhead l.reads l.writes l.left l.area-index
