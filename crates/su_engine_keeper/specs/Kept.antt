-- What a keeper over an engine keeps. (This project's own.)
use Rattle.std.specs.Prelude.{◌≡◌, ◌≤◌, ℕ, ◌+◌, Bool, false, List, [], length, Some, slice_get, Contains}
use Rattle.std.specs.Global.{Vec}
use Rattle.sha2.specs.Sha256.{sha256}
use Rattle.su_keeper.specs.Kept.{KeptRecord}
use Rattle.su_engine_keeper.specs.Keys.{record_key, item_key}

-- Each of these records lies under the key of its number, from 1, and each item that came with one
-- under the key of its digest. Until the keeper stops they are all that it counted, and the records
-- that it found behind them lie under the next numbers.
pub record Keeps
    (has : List ℕ → List ℕ → Type 0) (halted : Bool) (count : ℕ) (found : List (Vec ℕ))
    (records : List KeptRecord) : Type 0 where
  pub each : (i : ℕ) (r : KeptRecord) → slice_get records i ≡ Some r
      → has (record_key (i + 1)) r.commit
  pub items : (i : ℕ) (r : KeptRecord) → slice_get records i ≡ Some r → (item : List ℕ)
      → Contains r.items item → has (item_key (sha256 item)) item
  pub counted : halted ≡ false → count ≡ length records
  pub ahead : halted ≡ false → (i : ℕ) (r : Vec ℕ) → slice_get found i ≡ Some r
      → has (record_key (count + 1 + i)) r.items

-- Nothing that was found is left, and behind some first ones of those that were counted the engine
-- told that there was nothing: what came behind them came from this keeper.
abbrev pub IsAtEnd : (List ℕ → Type 0) → ℕ → List (Vec ℕ) → Type 0
IsAtEnd lacked count found =
    ((n : ℕ) × (n ≤ count) × lacked (record_key (n + 1))) × (found ≡ [])
