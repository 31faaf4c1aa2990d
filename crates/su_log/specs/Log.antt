-- A log of commits: of each its bytes, and those of an item, with the number of bytes before both.
-- (This project's own format.)
use Rattle.std.specs.Prelude.{◌≡◌, ◌≢◌, ◌+◌, ℕ, List, [], ◌++◌, length, Option, Some}
use Rattle.std.specs.List.{flat_map}
use Rattle.su_log.specs.Part.{part_bytes, BeginWith}
use Rattle.su_log.specs.declared.parts.Part.{Part}
use Rattle.su_log.specs.declared.parts.Part.TheVariants.{Bytes, Cut, End}

-- what a log has of a commit
pub record LogRecord : Type 0 where
  pub commit : List ℕ
  pub item : List ℕ

-- both, each with its number before it
abbrev pub record_bytes : LogRecord → List ℕ
record_bytes r = part_bytes r.commit ++ part_bytes r.item

abbrev pub log_bytes : List LogRecord → List ℕ
log_bytes rs = flat_map record_bytes rs

-- the bytes begin with no part: with no bytes before which their number stands
abbrev pub HasNoPart : List ℕ → Type 0
HasNoPart bytes = (first rest : List ℕ) → BeginWith bytes first rest → ⊥

-- what the next part of an input is, and what is left of it
abbrev pub Reads : Part → List ℕ → Option (List ℕ) → Type 0
Reads (Bytes bytes) input known =
    (rest : List ℕ) × BeginWith input bytes.items rest × (known ≡ Some rest)
Reads Cut input known = (input ≢ []) × HasNoPart input
Reads End input known = input ≡ []

-- a place goes on behind a part
abbrev pub PassesPart : ℕ → ℕ → Part → Type 0
PassesPart before after (Bytes bytes) = after ≡ before + (4 + length bytes.items)
PassesPart before after _ = after ≡ before
