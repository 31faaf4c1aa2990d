-- Areas in bytes: which kind of area it is, of whose table and at which number it stands, and what
-- the kind has besides. A kind that has no more is spelled in six bytes.
use Rattle.std.specs.Prelude.{◌≡◌, ℕ, ◌<◌, ◌^◌, true, List, [], ◌∷◌, ◌++◌}
use Rattle.std.specs.List.{flat_map}
use Rattle.su_bytes.specs.Principal.{is_user, is_group}
use Rattle.su_bytes.specs.FileId.{is_inum}
use Rattle.su_bytes.specs.Name.{is_name}
use Rattle.su_op.specs.declared.areas.Part.{Part}
use Rattle.su_op.specs.declared.areas.Part.TheVariants.{Kind as KindPart, Links as LinksPart, Size as SizePart, Name as NamePart, Blocks as BlocksPart, Whole as WholePart}
use Rattle.su_op.specs.declared.areas.Area.{Area}
use Rattle.su_op.specs.declared.areas.Area.TheVariants.{Inode as InodeArea, Pointer as PointerArea}
use Rattle.su_format.specs.Part.{u32_bytes, name_bytes}
use Rattle.su_kept_areas.specs.declared.kinds.PartKind.{PartKind}
use Rattle.su_kept_areas.specs.declared.kinds.PartKind.TheVariants.{Kind, Links, Size, Whole, Blocks, Name}
use Rattle.su_kept_areas.specs.declared.kinds.AreaKind.{AreaKind}
use Rattle.su_kept_areas.specs.declared.kinds.AreaKind.TheVariants.{Inode, Pointer}

-- ---- kinds

-- which cells of an inode
abbrev pub part_kind : Part → PartKind
part_kind KindPart = Kind
part_kind LinksPart = Links
part_kind SizePart = Size
part_kind WholePart = Whole
part_kind (BlocksPart r) = Blocks
part_kind (NamePart x) = Name

-- cells of an inode, or the pointer of a group file
abbrev pub kind_of : Area → AreaKind
kind_of (InodeArea p part) = Inode (part_kind part)
kind_of (PointerArea g) = Pointer

-- the byte that tells the kind
abbrev pub kind_number : AreaKind → ℕ
kind_number Pointer = 0
kind_number (Inode Kind) = 1
kind_number (Inode Links) = 2
kind_number (Inode Size) = 3
kind_number (Inode Whole) = 4
kind_number (Inode Blocks) = 5
kind_number (Inode Name) = 6

-- ---- spellings

-- a user or a group in one byte, and a number of its table in four
abbrev pub place_bytes : ℕ × ℕ → List ℕ
place_bytes p = p.0 ∷ u32_bytes p.1

-- of a run of blocks the first one and how many follow it, of a name how many bytes it has and these;
-- other parts have no more
abbrev pub part_bytes : Part → List ℕ
part_bytes (BlocksPart r) = u32_bytes r.first ++ u32_bytes r.more
part_bytes (NamePart x) = name_bytes x
part_bytes _ = []

-- where it stands, and what its part has
abbrev pub fields_bytes : Area → List ℕ
fields_bytes (InodeArea p part) = place_bytes p ++ part_bytes part
fields_bytes (PointerArea g) = place_bytes g

-- the byte of its kind in front of these
abbrev pub area_bytes : Area → List ℕ
area_bytes a = kind_number (kind_of a) ∷ fields_bytes a

-- one after another
abbrev pub areas_bytes : List Area → List ℕ
areas_bytes areas = flat_map area_bytes areas

-- ---- what a program can hold

-- a run and a name in their ranges
abbrev pub IsPart : Part → Type 0
IsPart (BlocksPart r) = (r.first < 2 ^ 32) × (r.more < 2 ^ 32)
IsPart (NamePart x) = is_name x ≡ true
IsPart _ = Unit {0}

-- each of its numbers and its name are in their ranges, as the types of the code have it
abbrev pub IsArea : Area → Type 0
IsArea (InodeArea p part) = (is_user p.0 ≡ true) × (is_inum p.1 ≡ true) × IsPart part
IsArea (PointerArea g) = (is_group g.0 ≡ true) × (is_inum g.1 ≡ true)

-- ---- bytes that spell an area

-- they begin with this area, and the rest comes behind
pub record BeginsWith (bytes : List ℕ) (a : Area) (rest : List ℕ) : Type 0 where
  pub is : IsArea a
  pub spelled : bytes ≡ area_bytes a ++ rest
