-- Areas: sets of cells that stand together. Of one inode one cell, a run of blocks, or all; or the
-- pointer of a group file.
use Rattle.std.specs.Prelude.{◌≡◌, ℕ, ◌+◌, ◌-◌, ◌/◌, Bool, true, false, ◌&&◌, List, nat_le}
use Rattle.std.specs.List.{list_any}
use Rattle.su_node.specs.Name.{name_eq}
use Rattle.su_node.specs.Name.{Name}
use Rattle.su_node.specs.declared.blocks.TheConstants.{BLOCK_SIZE}
use Rattle.su_bytes.specs.Place.{Place, place_eq}
use Rattle.su_node.specs.Field.{Field, Field.KindOf, Field.LinksOf, Field.SizeOf, Field.BlockOf, Field.NameOf}
use Rattle.su_table.specs.Cell.{Cell, Cell.At, Cell.Pointer}
use Rattle.su_op.specs.declared.areas.BlockRun.{BlockRun}
use Rattle.su_op.specs.declared.areas.Part.{Part}
use Rattle.su_op.specs.declared.areas.Part.TheVariants.{Kind as KindPart, Links as LinksPart, Size as SizePart, Name as NamePart, Blocks as BlocksPart, Whole as WholePart}
use Rattle.su_op.specs.declared.areas.Area.{Area}
use Rattle.su_op.specs.declared.areas.Area.TheVariants.{Inode as InodeArea, Pointer as PointerArea}

-- ---- areas by their cells

-- of what stands at p: its kind and its home
abbrev pub kind_cell : Place → Area
kind_cell p = InodeArea p KindPart

-- its number of links
abbrev pub links_cell : Place → Area
links_cell p = InodeArea p LinksPart

-- its size
abbrev pub size_cell : Place → Area
size_cell p = InodeArea p SizePart

-- where one of its names leads
abbrev pub name_cell : Name → Place → Area
name_cell x p = InodeArea p (NamePart x)

-- all of its cells
abbrev pub all_cells : Place → Area
all_cells p = InodeArea p WholePart

-- the blocks from the first to the last, both in it
abbrev pub run : ℕ → ℕ → BlockRun
run first last = record { first = first; more = last - first }

-- the blocks that have the bytes from an offset up to an end
abbrev pub blocks_between : ℕ → ℕ → BlockRun
blocks_between off end = run (off / BLOCK_SIZE) ((end - 1) / BLOCK_SIZE)

-- some of its blocks
abbrev pub block_cells : BlockRun → Place → Area
block_cells r p = InodeArea p (BlocksPart r)

-- ---- the cells of an area

-- the blocks of a run
abbrev pub in_run : BlockRun → ℕ → Bool
in_run r n = nat_le r.first n && nat_le n (r.first + r.more)

-- the cells of a part
abbrev pub in_part : Part → Field → Bool
in_part WholePart f = true
in_part KindPart KindOf = true
in_part LinksPart LinksOf = true
in_part SizePart SizeOf = true
in_part (NamePart x) (NameOf y) = name_eq y x
in_part (BlocksPart r) (BlockOf n) = in_run r n
in_part _ _ = false

-- the cells of an area
abbrev pub in_area : Area → Cell → Bool
in_area (InodeArea p a) (At q f) = place_eq q p && in_part a f
in_area (PointerArea g) (Pointer k) = place_eq k g
in_area _ _ = false

-- the cells of some areas
abbrev pub has : List Area → Cell → Bool
has w c = list_any (λ a. in_area a c) w

-- a cell is in both
pub record ShareACell (a : Area) (b : Area) : Type 0 where
  pub cell : Cell
  pub first : in_area a cell ≡ true
  pub second : in_area b cell ≡ true

-- ---- the same as a test

-- neither run ends before the other begins
abbrev pub runs_overlap : BlockRun → BlockRun → Bool
runs_overlap r s = nat_le r.first (s.first + s.more) && nat_le s.first (r.first + r.more)

-- of one inode: the parts share a cell
abbrev pub parts_overlap : Part → Part → Bool
parts_overlap WholePart b = true
parts_overlap a WholePart = true
parts_overlap KindPart KindPart = true
parts_overlap LinksPart LinksPart = true
parts_overlap SizePart SizePart = true
parts_overlap (NamePart x) (NamePart y) = name_eq x y
parts_overlap (BlocksPart r) (BlocksPart s) = runs_overlap r s
parts_overlap _ _ = false

-- the areas share a cell
abbrev pub overlaps : Area → Area → Bool
overlaps (InodeArea p a) (InodeArea q b) = place_eq p q && parts_overlap a b
overlaps (PointerArea g) (PointerArea k) = place_eq g k
overlaps _ _ = false

-- an area of the first overlaps one of the second
abbrev pub meet : List Area → List Area → Bool
meet u w = list_any (λ a. list_any (overlaps a) w) u
