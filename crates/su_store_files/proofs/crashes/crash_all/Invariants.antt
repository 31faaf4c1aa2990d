use Rattle.std.proofs.Common.{List, length}
use Rattle.std.specs.List.{AllZip}
use Rattle.su_keeper.specs.Kept.{KeptRecord}
use Rattle.su_store_files.proofs.CrashLemmas.{AreLeftSoFar}
use Rattle.su_store_files.proofs.crashes.crash_all.Given as goal

abbrev pub invariant-loop-file : goal.invariant-loop-file
invariant-loop-file g l = record {
  left : (lists : List (List KeptRecord)) → AllZip g.V.Volume.keeps l.fn.files.items lists → AreLeftSoFar g.V.Volume l.files.items l.found.items lists;
}

abbrev pub decreases-loop-file : goal.decreases-loop-file
decreases-loop-file g l = length l.files.items
