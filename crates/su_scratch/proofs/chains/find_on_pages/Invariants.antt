use Rattle.std.proofs.Common.{◌≡◌, ℕ, suc, List, Option, Some, None}
use Rattle.su_scratch.specs.Bucket.{Pages, newest_of, AreWritten, found_on}
use Rattle.su_scratch.proofs.BucketLemmas.{AreLeftOn}
use Rattle.su_scratch.proofs.chains.find_on_pages.Given as goal

abbrev pub invariant-loop-next : goal.invariant-loop-next
invariant-loop-next g l = record {
  found : (pages : Pages) → g.F.Scratch.keeps l.fn.scratch → AreWritten (g.F.Scratch.written l.fn.scratch) pages
      → l.fn.newest ≡ newest_of pages
      → AreLeftOn (g.F.Scratch.written l.fn.scratch) l.next l.digest (found_on l.digest pages);
  no_more : (s : List ℕ) → g.F.Scratch.may_give l.scratch s → g.F.Scratch.may_give l.fn.scratch s;
  keeps : g.F.Scratch.keeps l.fn.scratch → g.F.Scratch.keeps l.scratch;
  unchanged : g.F.Scratch.keeps l.fn.scratch → g.F.Scratch.written l.scratch ≡ g.F.Scratch.written l.fn.scratch;
}

abbrev below : Option ℕ → ℕ
below None = 0
below (Some place) = suc place

abbrev pub decreases-loop-next : goal.decreases-loop-next
decreases-loop-next g l = below l.next
