-- The tables that a forest keeps beside its maps, with their digests.
use Rattle.std.specs.Prelude.{◌≡◌, ℕ, ◌<◌, Bool, IsTrue, List, [], length, slice_index_or}
use Rattle.std.specs.FinMap.{entries, from_entries}
use Rattle.su_bytes.specs.Place.{Place, place_cmp}
use Rattle.su_table.specs.Handle.{pairs_of}

-- of a map's entries at places the table of one principal
abbrev pub table_in : {X W : Type 0} → (X → W) → List (Place × X) → ℕ → List (ℕ × W)
table_in value es principal = pairs_of value principal (entries (from_entries {R = place_cmp} es))

-- these are the tables of all numbers that a principal can have
pub record AreTables {W : Type 0} (is_principal : ℕ → Bool) (table : ℕ → List (ℕ × W))
    (tables : List (List (ℕ × W))) : Type 0 where
  pub within : (principal : ℕ) → IsTrue (is_principal principal) → principal < length tables
  pub each : (principal : ℕ) → IsTrue (is_principal principal) → slice_index_or tables principal [] ≡ table principal
