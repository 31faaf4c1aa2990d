-- The next record of a log, and what is known of it.
use Rattle.std.specs.Prelude.{◌≡◌, ◌≢◌, ◌+◌, ◌≤◌, ◌⊎◌, ◌↔◌, ℕ, IsTrue, List, [], length, ⊤, Option, Some, None, Result, Ok, Err}
use Rattle.sha2.specs.Sha256.{sha256}
use Rattle.su_bytes.specs.declared.refusals.Refusal.{Refusal}
use Rattle.su_format.specs.Reading.{Decodes}
use Rattle.su_version.specs.Commit.{Commit, IsCommit, commit_bytes, commit_format}
use Rattle.su_version.specs.Chain.{IsSignedBy}
use Rattle.su_version.specs.declared.chains.Verdict.{Verdict}
use Rattle.su_log.specs.Part.{BeginWith}
use Rattle.su_log.specs.Log.{LogRecord, record_bytes, HasNoPart}
use Rattle.su_log.specs.declared.records.Digests.{Digests}
use Rattle.su_log.specs.declared.records.Record.{Record}
use Rattle.su_log.specs.declared.records.Stop.{Stop}
use Rattle.su_log.specs.declared.records.Stop.TheVariants.{End, Cut, Failed}

-- what the log has of it
abbrev pub spelled : Record → LogRecord
spelled r = record { commit = r.bytes.items; item = r.item.items }

-- ---- what is known of it

-- the bytes spell the commit
abbrev pub Spell : List ℕ → Result Commit Refusal → Type 0
Spell bytes (Ok c) = IsCommit c × (bytes ≡ commit_bytes c)
Spell bytes (Err e) = ⊤

-- this was read of the bytes
pub record IsRead (bytes : List ℕ) (read : Result Commit Refusal) : Type 0 where
  pub found : Spell bytes read
  pub decodes : Decodes commit_format bytes read

-- the verdict on the commit is right, if there is one
abbrev pub IsVerdict : Result Commit Refusal → Option Verdict → Type 0
IsVerdict (Ok c) (Some verdict) = IsTrue verdict.is_signed ↔ IsSignedBy verdict.key c
IsVerdict (Ok c) None = ⊤
IsVerdict (Err e) verdict = ⊤

-- these are the SHA-256 of the commit's bytes and of the item
pub record AreDigests (bytes item : List ℕ) (d : Digests) : Type 0 where
  pub commit_is : d.commit ≡ sha256 bytes
  pub item_is : d.item ≡ sha256 item

-- the digests of both are found
abbrev pub AreFound : List ℕ → List ℕ → Option Digests → Type 0
AreFound bytes item (Some d) = AreDigests bytes item d
AreFound bytes item None = ⊥

abbrev pub HasDigests : Record → Type 0
HasDigests r = AreFound r.bytes.items r.item.items r.digests

pub record IsExamined (r : Record) : Type 0 where
  pub read : IsRead r.bytes.items r.commit
  pub verdict : IsVerdict r.commit r.verdict
  pub digests : HasDigests r

-- ---- what comes next

-- the input begins with a record: with the commit's bytes, and then the item
pub record BeginsWithRecord (input : List ℕ) (r : LogRecord) (others : List ℕ) : Type 0 where
  pub rest : List ℕ
  pub commit : BeginWith input r.commit rest
  pub item : BeginWith rest r.item others

-- No record comes next, from a place on: nothing does; or no part begins there, and its place is
-- named; or behind the first part.
abbrev pub StopsSo : Stop → ℕ → List ℕ → Type 0
StopsSo End place input = input ≡ []
StopsSo (Cut at) place input =
    ((at ≡ place) × (input ≢ []) × HasNoPart input)
    ⊎ ((first rest : List ℕ) × BeginWith input first rest
    × (at ≡ place + (4 + length first)) × HasNoPart rest)
StopsSo (Failed error) place input = ⊤

-- what comes next, and what is left then
abbrev pub ReadsNext : Result Record Stop → ℕ → List ℕ → ℕ → Option (List ℕ) → Type 0
ReadsNext (Ok r) place input place' known =
    (rest : List ℕ) × BeginsWithRecord input (spelled r) rest × (known ≡ Some rest)
    × (place' ≡ place + length (record_bytes (spelled r)))
ReadsNext (Err stop) place input place' known = StopsSo stop place input

-- where a log stands that stopped: where it stood, at its end; at the place that is named; or,
-- where it couldn't be read, no further back
abbrev pub StaysAt : Stop → ℕ → ℕ → Type 0
StaysAt End place place' = place' ≡ place
StaysAt (Cut at) place place' = place' ≡ at
StaysAt (Failed error) place place' = place ≤ place'
