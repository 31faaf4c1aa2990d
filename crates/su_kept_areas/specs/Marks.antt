-- Marks: numbers of 32 bits by which those are looked up that read a cell. A mark is made of what cells
-- it stands for, so equal cells have equal marks; others may by chance have the same.
--
-- Who reads cells of an inode is entered under them, and under `Any` of the inode; who wrote some looks
-- under them, and under `Broad` of the inode, where those are who read all of it, or a longer run of its
-- blocks. Who wrote as much looks under `Any` alone.
use Rattle.std.specs.Prelude.{◌≡◌, ℕ, ◌+◌, ◌*◌, ◌%◌, ◌^◌, ◌<◌, length, drop, zero, suc, Bool, true, false, cond, not, List, [], ◌∷◌, nat_lt, nat_eq, fold}
use Rattle.std.specs.List.{flat_map, list_any}
use Rattle.su_bytes.specs.Place.{Place}
use Rattle.su_op.specs.declared.areas.Part.{Part}
use Rattle.su_op.specs.declared.areas.Part.TheVariants.{Kind as KindPart, Links as LinksPart, Size as SizePart, Name as NamePart, Blocks as BlocksPart, Whole as WholePart}
use Rattle.su_op.specs.declared.areas.Area.{Area}
use Rattle.su_op.specs.declared.areas.Area.TheVariants.{Inode as InodeArea, Pointer as PointerArea}
use Rattle.su_op.specs.declared.footprints.Footprint.{Footprint}
use Rattle.su_kept_areas.specs.Sided.{Spells}
use Rattle.su_kept_areas.specs.declared.marks.TheConstants.{FEW_BLOCKS, FACTOR}
use Rattle.su_kept_areas.specs.declared.marks.Cells.{Cells}
use Rattle.su_kept_areas.specs.declared.marks.Cells.TheVariants.{Kind, Links, Size, Name, Block, Broad, Any, Pointer}
use Rattle.su_kept_areas.specs.declared.marks.Side.{Side}
use Rattle.su_kept_areas.specs.declared.marks.Side.TheVariants.{Read, Written}

-- ---- marks

-- the number of cells of a kind
abbrev pub cells_number : Cells → ℕ
cells_number Kind = 1
cells_number Links = 2
cells_number Size = 3
cells_number Name = 4
cells_number Block = 5
cells_number Broad = 6
cells_number Any = 7
cells_number Pointer = 8

-- a mark with one word more
unfoldable pub mixed : ℕ → ℕ → ℕ
mixed mark word = (mark * FACTOR % 2 ^ 32 + word) % 2 ^ 32

-- of cells at a place
unfoldable pub mark_at : Cells → Place → ℕ
mark_at cells p = mixed (mixed (cells_number cells) p.0) p.1

-- of a name of the directory at p
unfoldable pub name_mark : Place → List ℕ → ℕ
name_mark p x = fold mixed (mark_at Name p) x

-- of a block of the file at p
unfoldable pub block_mark : Place → ℕ → ℕ
block_mark p n = mixed (mark_at Block p) (n % 2 ^ 32)

-- of a block and of so many more behind it
abbrev pub run_marks : Place → ℕ → ℕ → List ℕ
run_marks p first zero = block_mark p first ∷ []
run_marks p first (suc more) = block_mark p first ∷ run_marks p (first + 1) more

-- ---- the marks of areas

-- all of an inode, or a longer run of its blocks
abbrev pub is_broad : Part → Bool
is_broad WholePart = true
is_broad (BlocksPart r) = not (nat_lt r.more FEW_BLOCKS)
is_broad _ = false

-- the marks of a part itself
abbrev pub own_marks : Place → Part → List ℕ
own_marks p KindPart = mark_at Kind p ∷ []
own_marks p LinksPart = mark_at Links p ∷ []
own_marks p SizePart = mark_at Size p ∷ []
own_marks p (NamePart x) = name_mark p x ∷ []
own_marks p (BlocksPart r) =
    cond (nat_lt r.more FEW_BLOCKS) (run_marks p r.first r.more) (mark_at Broad p ∷ [])
own_marks p WholePart = mark_at Broad p ∷ []

-- the first mark of a part, and the others
abbrev pub first_mark : Side → Place → Part → ℕ
first_mark Read p part = mark_at Any p
first_mark Written p part = mark_at (cond (is_broad part) Any Broad) p

abbrev pub other_marks : Side → Place → Part → List ℕ
other_marks Read p part = own_marks p part
other_marks Written p part = cond (is_broad part) [] (own_marks p part)

-- under which marks one is entered who reads an area; and under which one looks who wrote it
abbrev pub marks : Side → Area → List ℕ
marks side (InodeArea p part) = first_mark side p part ∷ other_marks side p part
marks side (PointerArea g) = mark_at Pointer g ∷ []

-- of areas
abbrev pub all_marks : Side → List Area → List ℕ
all_marks side areas = flat_map (marks side) areas

-- the mark is among these
abbrev pub has_mark : List ℕ → ℕ → Bool
has_mark ms m = list_any (nat_eq m) ms

-- ---- marks one after another

-- the areas of a side
abbrev pub areas_on : Side → Footprint → List Area
areas_on Read f = f.reads.items
areas_on Written f = f.writes.items

-- so many of the first area's marks were passed, and not all
abbrev pub IsWithinFirst : Side → ℕ → List Area → Type 0
IsWithinFirst side i [] = i ≡ 0
IsWithinFirst side i (a ∷ areas) = i < length (marks side a)

-- the marks of areas but for the first so many
abbrev pub marks_from : Side → ℕ → List Area → List ℕ
marks_from side i areas = drop i (all_marks side areas)

-- the bytes spell those areas of the footprint that are left, of the first of which so many marks were passed
pub record GoesOver (side : Side) (f : Footprint) (passed : ℕ) (left : List ℕ) (i : ℕ) : Type 0 where
  pub spelled : Spells side left (drop passed (areas_on side f))
  pub within : IsWithinFirst side i (drop passed (areas_on side f))
  pub few : passed + length left < 2 ^ 64

-- under which marks one is entered who reads the areas
abbrev pub read_marks : List Area → List ℕ
read_marks areas = all_marks Read areas

-- under which one looks who wrote them
abbrev pub written_marks : List Area → List ℕ
written_marks areas = all_marks Written areas
