-- What the laws on forks suppose, of the commits that clients took, and of those that they are shown.
-- Of all byte strings it couldn't be said, as SHA-256 has collisions, and under each key that was
-- made every message has a signature.
use Rattle.std.specs.Prelude.{◌≡◌, ◌⊎◌, ℕ, true, List, [], ◌∷◌, Some}
use Rattle.std.specs.List.{flat_map, Contains}
use Rattle.sha2.specs.Sha256.{sha256}
use Rattle.su_bytes.specs.Membership.{Membership}
use Rattle.su_bytes.specs.RosterBytes.{roster_bytes, user_key}
use Rattle.su_lms.specs.Signature.{IsSigned}
use Rattle.su_change.specs.Item.{item_bytes}
use Rattle.su_version.specs.Version.{Version, version_bytes}
use Rattle.su_version.specs.Commit.{commit_bytes}
use Rattle.su_legal.specs.Legal.{Committed, author_of}
use Rattle.su_fork.specs.Events.{World, Event, versions_of}

-- ---- no colliding digests

-- what is hashed of a commit: its own bytes, and the item of its change
abbrev pub committed_bytes : Committed → List (List ℕ)
committed_bytes c = commit_bytes c.commit ∷ (item_bytes c.change ∷ [])

-- the byte strings whose digests link lists of these commits: the roster's, and those of each commit
unfoldable pub hashed : Membership → List Committed → List (List ℕ)
hashed ro cs = roster_bytes ro ∷ flat_map committed_bytes cs

-- no two of these byte strings have one SHA-256
pub record NoCollision (strings : List (List ℕ)) : Type 0 where
  pub same : (x y : List ℕ) → Contains strings x → Contains strings y
      → sha256 x ≡ sha256 y → x ≡ y

-- ---- no forged signatures

-- The keys under which user u's own clients sign: the roster's, and each that one of them signed as
-- the user's next one.
abbrev pub IsOwnKey : World → List Event → ℕ → List ℕ → Type 0
IsOwnKey w es u key =
    (user_key w.roster u ≡ Some key)
    ⊎ ((v : Version) × Contains (versions_of w u es) v × (v.next_key ≡ Some key))

-- What is among these commits as signed by an honest user, under a key of the user's own, a client of
-- the user signed in these events.
pub record NoForgery (w : World) (es : List Event) (cs : List Committed) : Type 0 where
  pub signed : (c : Committed) (key : List ℕ) → w.honest (author_of c) ≡ true
      → Contains cs c → IsOwnKey w es (author_of c) key
      → IsSigned key (version_bytes c.commit.version) c.commit.signature
      → Contains (versions_of w (author_of c) es) c.commit.version

-- ---- one client

-- the user of client k has no other
abbrev pub IsOnlyClient : World → ℕ → Type 0
IsOnlyClient w k = (j : ℕ) → w.user j ≡ w.user k → j ≡ k
