-- Areas of a footprint in bytes, each with the sides on which it stands: whether it is read, written
-- or both. One byte tells the sides and the kind, so that what is written takes no bytes where it is
-- spelled as read.
use Rattle.std.specs.Prelude.{◌≡◌, ℕ, ◌+◌, ◌*◌, Bool, true, false, cond, List, [], ◌∷◌, ◌++◌}
use Rattle.std.specs.List.{AllByRecursion, flat_map}
use Rattle.su_op.specs.declared.areas.Area.{Area}
use Rattle.su_kept_areas.specs.declared.kinds.AreaKind.{AreaKind}
use Rattle.su_kept_areas.specs.declared.marks.Side.{Side}
use Rattle.su_kept_areas.specs.declared.marks.Side.TheVariants.{Read, Written}
use Rattle.su_kept_areas.specs.declared.sided.TheConstants.{KINDS}
use Rattle.su_kept_areas.specs.declared.sided.Sides.{Sides}
use Rattle.su_kept_areas.specs.declared.sided.Sides.TheVariants as sides
use Rattle.su_kept_areas.specs.Spelling.{kind_of, kind_number, fields_bytes, IsArea}

-- on which sides an area stands, and the area
abbrev pub SidedArea : Type 0
SidedArea = Sides × Area

-- the number that tells the sides
abbrev pub sides_number : Sides → ℕ
sides_number sides.Read = 0
sides_number sides.Both = 1
sides_number sides.Written = 2

-- the side is one of them
abbrev pub has_side : Side → Sides → Bool
has_side Read sides.Written = false
has_side Written sides.Read = false
has_side side its = true

-- the areas of a side
abbrev pub areas_of : Side → List SidedArea → List Area
areas_of side [] = []
areas_of side (it ∷ them) =
    cond (has_side side it.0) (it.1 ∷ areas_of side them) (areas_of side them)

-- ---- spellings

-- the byte that tells sides and a kind
abbrev pub sided_byte : Sides → AreaKind → ℕ
sided_byte its kind = kind_number kind + KINDS * sides_number its

-- that byte, and what the kind has
abbrev pub sided_bytes : SidedArea → List ℕ
sided_bytes it = sided_byte it.0 (kind_of it.1) ∷ fields_bytes it.1

-- one after another
abbrev pub all_sided_bytes : List SidedArea → List ℕ
all_sided_bytes them = flat_map sided_bytes them

-- the area is one that a program can hold
abbrev pub IsSided : SidedArea → Type 0
IsSided it = IsArea it.1

-- the byte tells some sides and some kind
abbrev pub TellsSome : ℕ → Type 0
TellsSome byte = (its : Sides) × (kind : AreaKind) × (byte ≡ sided_byte its kind)

-- the bytes begin with this one, and the rest comes behind
pub record BeginsWithSided (bytes : List ℕ) (it : SidedArea) (rest : List ℕ) : Type 0 where
  pub is : IsSided it
  pub spelled : bytes ≡ sided_bytes it ++ rest

-- the bytes are these
pub record AreSided (bytes : List ℕ) (them : List SidedArea) : Type 0 where
  pub are : AllByRecursion IsSided them
  pub spelled : bytes ≡ all_sided_bytes them

-- the bytes begin with some
abbrev pub BeginWithSided : List ℕ → Type 0
BeginWithSided bytes = (it : SidedArea) × (rest : List ℕ) × BeginsWithSided bytes it rest

-- the bytes are some
abbrev pub AreSomeSided : List ℕ → Type 0
AreSomeSided bytes = (them : List SidedArea) × AreSided bytes them

-- ---- bytes that spell areas of a side

-- the first one is of the side
abbrev pub BeginOn : Side → List SidedArea → Type 0
BeginOn side [] = Unit {0}
BeginOn side (it ∷ them) = has_side side it.0 ≡ true

-- among what they spell, those of the side are these areas; where there are some, the bytes begin
-- with one of them
pub record Spells (side : Side) (bytes : List ℕ) (areas : List Area) : Type 0 where
  pub them : List SidedArea
  pub spelled : AreSided bytes them
  pub begin : BeginOn side them
  pub are : areas_of side them ≡ areas

-- they begin with some area of the side
abbrev pub BeginWithOne : Side → List ℕ → Type 0
BeginWithOne side bytes = (a : Area) × (others : List Area) × Spells side bytes (a ∷ others)

-- they spell some areas of the side
abbrev pub SpellSome : Side → List ℕ → Type 0
SpellSome side bytes = (areas : List Area) × Spells side bytes areas
