-- Records of a book, each with its number. (This project's own.)
use Rattle.std.specs.Prelude.{◌≡◌, ◌⊎◌, ℕ, List, map}
use Rattle.std.specs.Global.{Vec}
use Rattle.sha2.specs.Sha256.{sha256}
use Rattle.su_keeper.specs.Kept.{KeptRecord}
use Rattle.su_version.specs.Commit.{Commit, IsCommit, commit_bytes}

-- what contracts see of a record: its number, from 1, the bytes of its commit, and the items that
-- were handed in with it
pub record Entry : Type 0 where
  pub number : ℕ
  pub bytes : List ℕ
  pub items : List (List ℕ)

-- the bytes of each
abbrev pub contents : List (Vec ℕ) → List (List ℕ)
contents items = map (λ item. item.items) items

-- the record as a keeper keeps it
abbrev pub kept_as : Entry → KeptRecord
kept_as r = record { commit = r.bytes; items = r.items }

-- the bytes are those of a commit by this author
abbrev pub IsBy : List ℕ → ℕ → Type 0
IsBy bytes author =
    (c : Commit) × IsCommit c × (bytes ≡ commit_bytes c) × (author ≡ c.version.author)

-- What is shown of a record with these bytes: them; or, where they were read back from a keeper that
-- can fail, bytes with their SHA-256.
abbrev pub IsShown : Type 0 → List ℕ → List ℕ → Type 0
IsShown may_fail bytes shown = (shown ≡ bytes) ⊎ (may_fail × (sha256 shown ≡ sha256 bytes))
