-- What is found out of a commit before its turn comes. (This project's own.)
use Rattle.std.specs.Prelude.{◌≡◌, ◌⊎◌, ◌↔◌, ℕ, IsTrue, List, Option, Some, None, Result, Ok, Err}
use Rattle.su_bytes.specs.declared.refusals.Refusal.{Refusal}
use Rattle.su_bytes.specs.declared.refusals.Refusal.TheVariants.{NoMemory}
use Rattle.su_version.specs.Commit.{Commit, IsCommit, commit_bytes}
use Rattle.su_version.specs.Chain.{IsSignedBy}
use Rattle.su_version.specs.declared.chains.Verdict.{Verdict}
use Rattle.su_book.specs.declared.offers.Found.{Found}
use Rattle.su_book.specs.Malformed.{IsMalformed}

-- the verdict is on this commit, and right, if there is one
abbrev pub IsVerdict : Commit → Option Verdict → Type 0
IsVerdict c (Some verdict) = IsTrue verdict.is_signed ↔ IsSignedBy verdict.key c
IsVerdict c None = Unit {0}

-- This was found out of the bytes: the commit that they spell, with a verdict on it; or why there is
-- none.
abbrev pub IsFoundIn : List ℕ → Result Found Refusal → Type 0
IsFoundIn bytes (Ok found) =
    IsCommit found.commit × (bytes ≡ commit_bytes found.commit)
    × IsVerdict found.commit found.verdict
IsFoundIn bytes (Err e) = (e ≡ NoMemory) ⊎ IsMalformed bytes e
