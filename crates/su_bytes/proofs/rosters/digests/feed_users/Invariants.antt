-- The hasher holds the users so far.
use Rattle.std.proofs.Common.{ℕ, List, ◌∷◌, ◌++◌, length, take}
use Rattle.std.specs.List.{flat_map}
use Rattle.sha2.specs.Hashers.{Holds256}
use Rattle.su_bytes.specs.RosterBytes.{user_bytes}
use Rattle.su_bytes.proofs.rosters.digests.feed_users.Given as goal

abbrev pub invariant-loop-entry : goal.invariant-loop-entry
invariant-loop-entry l =
    (m : List ℕ) → Holds256 l.fn.hasher m
    → Holds256 l.hasher (m ++ length l.users ∷ flat_map (λ u. user_bytes (u.user, u.key)) (take l.entry-index l.users))
