-- The hasher holds the members so far.
use Rattle.std.proofs.Common.{ℕ, List, ◌∷◌, ◌++◌, length, take}
use Rattle.sha2.specs.Hashers.{Holds256}
use Rattle.su_bytes.proofs.rosters.digests.feed_members.Given as goal

abbrev pub invariant-loop-member : goal.invariant-loop-member
invariant-loop-member l =
    (m : List ℕ) → Holds256 l.fn.hasher m
    → Holds256 l.hasher (m ++ length l.members ∷ take l.member-index l.members)
