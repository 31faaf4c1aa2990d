-- Values are put back one after another: what is left to do.
use Rattle.std.specs.Prelude.{◌≡◌, ◌≤◌, false, List, ◌++◌, map}
use Rattle.std.specs.List.{AllByRecursion}
use Rattle.su_node.specs.Field.{Field.SizeOf}
use Rattle.su_bytes.specs.Place.{Place}
use Rattle.su_table.specs.Tree.{Tree}
use Rattle.su_table.specs.Cell.{Cell, Cell.At, val}
use Rattle.su_table.specs.Query.{size_at}
use Rattle.su_op.specs.declared.areas.Part.TheVariants.{Kind as KindPart, Whole as WholePart}
use Rattle.su_op.specs.declared.areas.Area.{Area}
use Rattle.su_op.specs.declared.areas.Area.TheVariants.{Inode as InodeArea}
use Rattle.su_op.specs.Area.{has}
use Rattle.su_inverse.specs.declared.returns.Return.{Return}
use Rattle.su_inverse.specs.declared.resets.Reset.{Reset}
use Rattle.su_inverse.specs.declared.contents.KeptSize.{KeptSize}
use Rattle.su_inverse.specs.declared.contents.KeptBlocks.{KeptBlocks}
use Rattle.su_inverse.specs.declared.inverses.Inverse.{Inverse}
use Rattle.su_inverse.specs.Kept.{return_area, size_area, reset_area, blocks_area, HoldsSize, HoldsReset, HoldsBlocks}

-- an inode that wasn't there goes as a whole, so the area of its kind becomes that of all its cells
abbrev pub widened : Area → Area
widened (InodeArea p KindPart) = InodeArea p WholePart
widened a = a

-- the areas that are left to be put back, last steps first: blocks; links and absences; sizes; what
-- is brought back
abbrev pub left_blocks : List KeptBlocks → List Area
left_blocks blocks = map widened (map blocks_area blocks)

-- links and absences, and then blocks
abbrev pub left_resets : List Reset → List KeptBlocks → List Area
left_resets resets blocks = map widened (map reset_area resets ++ map blocks_area blocks)

-- sizes, and then those
abbrev pub left_sizes : List KeptSize → Inverse → List Area
left_sizes sizes i =
    map widened (map size_area sizes
    ++ (map reset_area i.resets.items
    ++ map blocks_area i.blocks.items))

-- what is brought back, and then those
abbrev pub left : List Return → Inverse → List Area
left returns i =
    map widened (map return_area returns
    ++ (map size_area i.sizes.items
    ++ (map reset_area i.resets.items
    ++ map blocks_area i.blocks.items)))

-- the trees have the same values in all cells outside the areas
pub record AgreeOutside (w : List Area) (F : Tree) (T : Tree) : Type 0 where
  pub each : (c : Cell) → has w c ≡ false → val F c ≡ val T c

-- T holds what takes no memory, once files are long enough
pub record HoldsAll (i : Inverse) (T : Tree) : Type 0 where
  pub sizes : AllByRecursion (HoldsSize T) i.sizes.items
  pub resets : AllByRecursion (HoldsReset T) i.resets.items
  pub blocks : AllByRecursion (HoldsBlocks T) i.blocks.items

-- but for these sizes, each file of F is as long as that of T
pub record IsRoomy (sizes : List KeptSize) (F : Tree) (T : Tree) : Type 0 where
  pub each : (p : Place) → has (map size_area sizes) (At p SizeOf) ≡ false
      → size_at T p ≤ size_at F p
