-- The hasher holds the groups so far.
use Rattle.std.proofs.Common.{ℕ, List, ◌∷◌, ◌++◌, length, take}
use Rattle.std.specs.List.{flat_map}
use Rattle.sha2.specs.Hashers.{Holds256}
use Rattle.su_bytes.specs.RosterBytes.{members_bytes}
use Rattle.su_bytes.proofs.rosters.digests.feed_groups.Given as goal

abbrev pub invariant-loop-entry : goal.invariant-loop-entry
invariant-loop-entry l =
    (m : List ℕ) → Holds256 l.fn.hasher m
    → Holds256 l.hasher (m ++ length l.groups ∷ flat_map (λ g. members_bytes (g.group, g.members.items)) (take l.entry-index l.groups))
