-- The key of a client's own user, those that it had before, and what all have signed. (RFC 8554, section 9.2: a leaf signs once.)
use Rattle.std.specs.Prelude.{ℕ, List, map}
use Rattle.su_lms.specs.PrivateKey.{PrivateKey}
use Rattle.su_version.specs.Commit.{Commit}

-- the key, the leaf that signs next, the store that keeps that number, the public keys in whose
-- places others were put since it was made of a signer, and all commits that were signed since then,
-- in order
pub record OwnKeyState (S : Type 0) : Type 0 where
  pub key : PrivateKey
  pub next : ℕ
  pub store : S
  pub former : List (List ℕ)
  pub signed : List Commit

-- the commits among the pairs of a log
abbrev pub commits_in : List (Commit × Unit {0}) → List Commit
commits_in pairs = map (λ pair. pair.0) pairs

-- the keys among the pairs of a log
abbrev pub keys_in : List (List ℕ × Unit {0}) → List (List ℕ)
keys_in pairs = map (λ pair. pair.0) pairs
