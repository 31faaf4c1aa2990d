-- A commit as a list keeps it in memory.
use Rattle.std.specs.Prelude.{◌≡◌, ℕ, Bool, List, [], ◌∷◌, nat_eq}
use Rattle.std.specs.Cmp.Lexicographic.{pointwise}
use Rattle.sha2.specs.Sha256.{sha256}
use Rattle.su_version.specs.Version.{Version}
use Rattle.su_version.specs.Commit.{Commit, commit_bytes}

-- what is kept of a commit: its version structure, and the digest of its bytes
pub record IsKeptAs (version : Version) (digest : List ℕ) (c : Commit) : Type 0 where
  pub version_is : version ≡ c.version
  pub digest_is : digest ≡ sha256 (commit_bytes c)

-- a version structure without a signature
abbrev pub unsigned : Version → Commit
unsigned version = record { version = version; signature = [] }

-- the first commit of a log that keeps commits alone, c where it has none
abbrev pub first_in : Commit → List (Commit × Unit {0}) → Commit
first_in c [] = c
first_in c (pair ∷ pairs) = pair.0

-- whether the bytes of a commit have this digest
abbrev pub has_digest : List ℕ → Commit → Bool
has_digest digest c = pointwise nat_eq (sha256 (commit_bytes c)) digest
