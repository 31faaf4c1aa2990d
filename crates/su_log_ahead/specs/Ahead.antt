-- A log of which records are read ahead: what is still to be taken of it.
use Rattle.std.specs.Prelude.{◌≡◌, ◌+◌, ◌<◌, ℕ, List, [], ◌∷◌, length, map, slice_index_or, Option, Some, None}
use Rattle.su_log.specs.Log.{LogRecord, record_bytes}
use Rattle.su_log.specs.Record.{spelled, IsVerdict, HasDigests, BeginsWithRecord, StopsSo}
use Rattle.su_log.specs.declared.records.Record.{Record}
use Rattle.su_log.specs.declared.records.Stop.{Stop}

-- From a place on the log goes on with these records, and from another place on with the rest.
abbrev pub GoesOn : List LogRecord → ℕ → List ℕ → ℕ → List ℕ → Type 0
GoesOn [] place input place' rest = (place' ≡ place) × (rest ≡ input)
GoesOn (r ∷ rs) place input place' rest =
    (others : List ℕ) × BeginsWithRecord input r others
    × GoesOn rs (place + length (record_bytes r)) others place' rest

-- What is behind the records that were read ahead: what the reader still has, which is at a place;
-- or no record.
abbrev pub IsBehind : Option Stop → ℕ → Option (List ℕ) → ℕ → List ℕ → Type 0
IsBehind None at known place rest = (at ≡ place) × (known ≡ Some rest)
IsBehind (Some stop) at known place rest = StopsSo stop place rest

-- what was read ahead and not taken yet; what is behind that, if it was read; and where the reader
-- is in the log, and what it still has
pub record AheadState : Type 0 where
  pub records : List Record
  pub stop : Option Stop
  pub place : ℕ
  pub known : Option (List ℕ)

-- all that was read ahead is taken, and there may be more
abbrev pub IsUsedUp : AheadState → Type 0
IsUsedUp s = (s.records ≡ []) × (s.stop ≡ None)

-- This is still to be taken, from a place on: the records that were read, and what is behind them.
pub record IsLeft (s : AheadState) (place : ℕ) (input : List ℕ) : Type 0 where
  pub place' : ℕ
  pub rest : List ℕ
  pub goes_on : GoesOn (map spelled s.records) place input place' rest
  pub behind : IsBehind s.stop s.place s.known place' rest

-- of a record it was found out whether the commit is signed, and which digests the bytes have, and
-- nothing else has changed
pub record IsExaminedFrom (old new : Record) : Type 0 where
  pub verdict : IsVerdict new.commit new.verdict
  pub digests : HasDigests new
  pub same : new ≡ record old { verdict = new.verdict; digests = new.digests }

-- the same of each of these records
abbrev pub AreExaminedFrom : List Record → List Record → Type 0
AreExaminedFrom old new =
    (i : ℕ) (d : Record) → i < length old
    → IsExaminedFrom (slice_index_or old i d) (slice_index_or new i d)
