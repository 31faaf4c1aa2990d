-- Areas as a format: the parts that a reader takes, one after another. Of a name it takes the bytes
-- as they are, so that there are more areas here than a program can hold.
use Rattle.std.specs.Prelude.{ℕ, List, [], ◌∷◌}
use Rattle.su_bytes.specs.Place.{Place, GroupFile}
use Rattle.su_op.specs.declared.areas.BlockRun.{BlockRun}
use Rattle.su_op.specs.declared.areas.Part.{Part}
use Rattle.su_op.specs.declared.areas.Part.TheVariants.{Kind as KindPart, Links as LinksPart, Size as SizePart, Name as NamePart, Blocks as BlocksPart, Whole as WholePart}
use Rattle.su_op.specs.declared.areas.Area.{Area}
use Rattle.su_op.specs.declared.areas.Area.TheVariants.{Inode as InodeArea, Pointer as PointerArea}
use Rattle.su_format.specs.Format.{Format, part, making, ◌>>=◌}
use Rattle.su_format.specs.Part.{u8_part, u32_part, bytes_part, user_part, group_part, inum_part}
use Rattle.su_kept_areas.specs.declared.kinds.PartKind.{PartKind}
use Rattle.su_kept_areas.specs.declared.kinds.PartKind.TheVariants.{Kind, Links, Size, Whole, Blocks, Name}
use Rattle.su_kept_areas.specs.declared.kinds.AreaKind.{AreaKind}
use Rattle.su_kept_areas.specs.declared.kinds.AreaKind.TheVariants.{Inode, Pointer}
use Rattle.su_kept_areas.specs.Spelling.{kind_number}

abbrev pub AnyKind : AreaKind → Type 0
AnyKind _ = Unit {0}

-- the byte of a kind
abbrev pub kind_byte : AreaKind → List ℕ
kind_byte k = kind_number k ∷ []

unfoldable pub kind_part : Format AreaKind
kind_part = part AnyKind kind_byte

-- a user, and a number of the user's table
unfoldable pub place_format : Format Place
place_format = do
  user ← user_part
  number ← inum_part
  making (user, number)

-- a group, and a number of the group's table
unfoldable pub group_file_format : Format GroupFile
group_file_format = do
  group ← group_part
  number ← inum_part
  making (group, number)

-- the first block, and how many follow it
unfoldable pub run_format : Format BlockRun
run_format = do
  first ← u32_part
  more ← u32_part
  making (record { first = first; more = more })

-- how many bytes there are, and these
unfoldable pub short_format : Format (List ℕ)
short_format = do
  count ← u8_part
  bytes ← bytes_part count
  making bytes

-- what a kind of part has
unfoldable pub part_format : PartKind → Format Part
part_format Kind = making KindPart
part_format Links = making LinksPart
part_format Size = making SizePart
part_format Whole = making WholePart
part_format Blocks = do
  run ← run_format
  making (BlocksPart run)
part_format Name = do
  name ← short_format
  making (NamePart name)

-- what a kind of area has
unfoldable pub fields_format : AreaKind → Format Area
fields_format Pointer = do
  file ← group_file_format
  making (PointerArea file)
fields_format (Inode kind) = do
  place ← place_format
  part ← part_format kind
  making (InodeArea place part)

-- the byte of its kind, and what the kind has
unfoldable pub area_format : Format Area
area_format = do
  kind ← kind_part
  fields_format kind
