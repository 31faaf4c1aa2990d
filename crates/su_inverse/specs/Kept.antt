-- What an inverse keeps: the values that the cells of some areas hold in a tree.
use Rattle.std.specs.Prelude.{◌≡◌, ℕ, ◌+◌, ◌*◌, Bool, true, false, List, [], ◌∷◌, ◌++◌, map, Some, None, option_map}
use Rattle.std.specs.List.{AllByRecursion}
use Rattle.std.specs.FinMap.{get}
use Rattle.su_node.specs.Inode.{bytes_of, within}
use Rattle.su_node.specs.declared.blocks.TheConstants.{BLOCK_SIZE}
use Rattle.su_node.specs.Field.{Field.KindOf, Field.LinksOf, Field.SizeOf, Field.BlockOf, Field.NameOf, Value.Nothing, Value.ANumber, Value.AFile, Value.APlace}
use Rattle.su_node.specs.InodeChange.{InodeChange.Named, InodeChange.Linked, InodeChange.Written, InodeChange.Resized, InodeChange.Copied, InodeChange.Gone}
use Rattle.su_bytes.specs.Place.{Place}
use Rattle.su_table.specs.Tree.{Tree}
use Rattle.su_table.specs.Cell.{Cell, Cell.At, Cell.Pointer, val}
use Rattle.su_table.specs.Query.{is_file_at, size_at}
use Rattle.su_table.specs.Edit.{Edit, Edit.Inodes, Edit.Pointers}
use Rattle.su_op.specs.declared.areas.Part.TheVariants.{Kind as KindPart, Links as LinksPart, Size as SizePart, Name as NamePart, Blocks as BlocksPart, Whole as WholePart}
use Rattle.su_op.specs.declared.areas.BlockRun.{BlockRun}
use Rattle.su_op.specs.declared.areas.Area.{Area}
use Rattle.su_op.specs.declared.areas.Area.TheVariants.{Inode as InodeArea, Pointer as PointerArea}
use Rattle.su_op.specs.Area.{has}
use Rattle.su_op.specs.Soundness.{KindIsNew}
use Rattle.su_inverse.specs.declared.returns.Return.{Return}
use Rattle.su_inverse.specs.declared.returns.Return.TheVariants.{Inode as InodeReturn, Name as NameReturn, Pointer as PointerReturn}
use Rattle.su_inverse.specs.declared.resets.Reset.{Reset}
use Rattle.su_inverse.specs.declared.resets.Reset.TheVariants.{Nothing as NothingReset, Links as LinksReset}
use Rattle.su_inverse.specs.declared.contents.KeptSize.{KeptSize}
use Rattle.su_inverse.specs.declared.contents.KeptBlocks.{KeptBlocks}
use Rattle.su_inverse.specs.declared.inverses.Inverse.{Inverse}

-- of a place where nothing stands the kind can be kept, which is that there is none
abbrev pub CanKeep : Tree → Area → Type 0
CanKeep T a = KindIsNew T a

-- ---- the areas

-- where something is brought back
abbrev pub return_area : Return → Area
return_area (InodeReturn p i) = InodeArea p WholePart
return_area (NameReturn p x f) = InodeArea p (NamePart x)
return_area (PointerReturn g p) = PointerArea g

-- where links or an absence are restored
abbrev pub reset_area : Reset → Area
reset_area (NothingReset a) = a
reset_area (LinksReset p n) = InodeArea p LinksPart

-- the size of the file
abbrev pub size_area : KeptSize → Area
size_area k = InodeArea k.place SizePart

-- the blocks of the file
abbrev pub blocks_area : KeptBlocks → Area
blocks_area k = InodeArea k.place (BlocksPart k.run)

-- all areas of which an inverse keeps something
abbrev pub inverse_areas : Inverse → List Area
inverse_areas i =
    map return_area i.returns.items
    ++ (map size_area i.sizes.items
    ++ (map reset_area i.resets.items
    ++ map blocks_area i.blocks.items))

-- ---- their values: the tree holds what is kept

-- what is brought back stands in T
abbrev pub HoldsReturn : Tree → Return → Type 0
HoldsReturn T (InodeReturn p i) = get T.inodes p ≡ Some i
HoldsReturn T (NameReturn p x f) = val T (At p (NameOf x)) ≡ AFile f
HoldsReturn T (PointerReturn g p) = val T (Pointer g) ≡ APlace p

-- nothing is in the area: there is no such name or pointer, no file with blocks, and else no inode
abbrev pub HoldsNothing : Tree → Area → Type 0
HoldsNothing T (InodeArea p (NamePart x)) = val T (At p (NameOf x)) ≡ Nothing
HoldsNothing T (InodeArea p (BlocksPart r)) = bytes_of (get T.inodes p) ≡ None
HoldsNothing T (InodeArea p a) = val T (At p KindOf) ≡ Nothing
HoldsNothing T (PointerArea g) = val T (Pointer g) ≡ Nothing

-- the links or the absence are those of T
abbrev pub HoldsReset : Tree → Reset → Type 0
HoldsReset T (NothingReset a) = HoldsNothing T a
HoldsReset T (LinksReset p n) = val T (At p LinksOf) ≡ ANumber n

-- the file of T has that size
abbrev pub HoldsSize : Tree → KeptSize → Type 0
HoldsSize T k = val T (At k.place SizeOf) ≡ ANumber k.size

-- of a file's bytes those in a run of blocks
abbrev pub bytes_in : BlockRun → List ℕ → List ℕ
bytes_in r = within (BLOCK_SIZE * r.first) (BLOCK_SIZE * (r.more + 1))

-- the file of T has these bytes in the blocks
abbrev pub HoldsBlocks : Tree → KeptBlocks → Type 0
HoldsBlocks T k = option_map (bytes_in k.run) (bytes_of (get T.inodes k.place)) ≡ Some k.bytes.items

-- the kept values are those of T
pub record IsKeptOf (i : Inverse) (T : Tree) : Type 0 where
  pub returns : AllByRecursion (HoldsReturn T) i.returns.items
  pub sizes : AllByRecursion (HoldsSize T) i.sizes.items
  pub resets : AllByRecursion (HoldsReset T) i.resets.items
  pub blocks : AllByRecursion (HoldsBlocks T) i.blocks.items

-- T has the kept values in the areas, and those of F in all other cells
pub record IsPutBack (i : Inverse) (F : Tree) (T : Tree) : Type 0 where
  pub kept : IsKeptOf i T
  pub others : (c : Cell) → has (inverse_areas i) c ≡ false → val F c ≡ val T c

-- T holds what S holds in these cells; and where a block is one of them, in both or in neither a
-- file stands
pub record HoldsSame (w : Cell → Bool) (S : Tree) (T : Tree) : Type 0 where
  pub cells : (c : Cell) → w c ≡ true → val T c ≡ val S c
  pub files : (p : Place) (n : ℕ) → w (At p (BlockOf n)) ≡ true → is_file_at T p ≡ is_file_at S p

-- ---- the edits that put them back

-- the file at p of F gets n bytes
abbrev pub size_edit : Tree → Place → ℕ → Edit
size_edit F p n = Inodes p (Resized (size_at F p) n)

-- the kept bytes are written into the file of F
abbrev pub blocks_edit : Tree → KeptBlocks → Edit
blocks_edit F k =
    Inodes k.place (Written (size_at F k.place) (BLOCK_SIZE * k.run.first) k.bytes.items)

-- the edit that brings it back
abbrev pub return_edit : Return → Edit
return_edit (InodeReturn p i) = Inodes p (Copied i)
return_edit (NameReturn p x f) = Inodes p (Named x (Some f))
return_edit (PointerReturn g p) = Pointers g (Some p)

-- links, a size and blocks go with their inode
abbrev pub nothing_edits : Area → List Edit
nothing_edits (InodeArea p KindPart) = Inodes p Gone ∷ []
nothing_edits (InodeArea p WholePart) = Inodes p Gone ∷ []
nothing_edits (InodeArea p (NamePart x)) = Inodes p (Named x None) ∷ []
nothing_edits (InodeArea p a) = []
nothing_edits (PointerArea g) = Pointers g None ∷ []

-- the edits that restore it
abbrev pub reset_edits : Reset → List Edit
reset_edits (NothingReset a) = nothing_edits a
reset_edits (LinksReset p n) = Inodes p (Linked n) ∷ []
