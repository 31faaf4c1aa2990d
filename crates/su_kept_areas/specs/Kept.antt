-- A footprint as a desk keeps it.
use Rattle.std.specs.Prelude.{◌≡◌, ◌⊎◌, ℕ, List, [], ◌∷◌, ◌++◌}
use Rattle.std.specs.Global.{Vec}
use Rattle.std.proofs.Common.{refl, zero-le}
use Rattle.su_op.specs.declared.areas.Area.{Area}
use Rattle.su_op.specs.declared.footprints.Footprint.{Footprint}
use Rattle.su_kept_areas.specs.declared.marks.Side.TheVariants.{Read, Written}
use Rattle.su_kept_areas.specs.Sided.{SidedArea, AreSided, areas_of}

-- the bytes are the areas that are read and those that are written, each with its sides
pub record IsSpelledAs (bytes : List ℕ) (reads writes : List Area) : Type 0 where
  pub them : List SidedArea
  pub spelled : AreSided bytes them
  pub reads_are : areas_of Read them ≡ reads
  pub writes_are : areas_of Written them ≡ writes

-- they were written behind the old ones
abbrev pub IsPut : List ℕ → List ℕ → List Area → List Area → Type 0
IsPut old new reads writes =
    (bytes : List ℕ) × (new ≡ old ++ bytes) × IsSpelledAs bytes reads writes

-- the area is the first of these
abbrev pub BeginWith : Area → List Area → Type 0
BeginWith a areas = (others : List Area) × (areas ≡ a ∷ others)

-- the areas stand among the others, in their order
abbrev pub StandAmong : List Area → List Area → Type 0
StandAmong [] others = Unit {0}
StandAmong (a ∷ areas) [] = ⊥
StandAmong (a ∷ areas) (b ∷ others) =
    ((a ≡ b) × StandAmong areas others) ⊎ StandAmong (a ∷ areas) others

-- the bytes are those of the footprint
abbrev pub IsKeptAs : List ℕ → Footprint → Type 0
IsKeptAs bytes f = IsSpelledAs bytes f.reads.items f.writes.items

-- no areas, in a vector that is made of another one
abbrev no_areas : Vec ℕ → Vec Area
no_areas v = record { ptr = v.ptr; len = 0; cap = v.cap; alloc = v.alloc; items = []; ok = (refl, zero-le); small = v.small }

-- the footprint of nothing
abbrev pub nothing_in : Vec ℕ → Footprint
nothing_in v = record { reads = no_areas v; writes = no_areas v }

-- the first footprint of a log that keeps footprints alone, f where it has none
abbrev pub first_in : Footprint → List (Footprint × Unit {0}) → Footprint
first_in f [] = f
first_in f (pair ∷ pairs) = pair.0
