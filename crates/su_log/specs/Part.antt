-- Bytes with their number before them. (This project's own format.)
use Rattle.std.specs.Prelude.{◌≡◌, ◌<◌, ◌^◌, ℕ, List, ◌++◌, length}
use Rattle.su_format.specs.Part.{u32_bytes}

-- how many they are, and these
abbrev pub part_bytes : List ℕ → List ℕ
part_bytes bytes = u32_bytes (length bytes) ++ bytes

-- the bytes begin with a part: with these, before which their number stands
pub record BeginWith (bytes first rest : List ℕ) : Type 0 where
  pub few : length first < 2 ^ 32
  pub whole : bytes ≡ part_bytes first ++ rest
