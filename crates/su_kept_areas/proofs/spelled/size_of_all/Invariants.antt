use Rattle.std.proofs.Common.{◌≡◌, length, take}
use Rattle.su_kept_areas.specs.Spelling.{areas_bytes}
use Rattle.su_kept_areas.proofs.spelled.size_of_all.Given as goal

abbrev pub invariant-loop-area : goal.invariant-loop-area
invariant-loop-area l = l.sum ≡ length (areas_bytes (take l.area-index l.areas))
