-- What of a forest is known, so that the rest of an undo can be done: f is the forest, which stands
-- for F, and T the tree that is put back.
use Rattle.std.specs.Prelude.{◌≡◌, ◌⊎◌, ℕ, ◌*◌, ◌/◌, ◌<◌, ◌≤◌, ◌^◌, Bool, IsTrue, true, false, is_some, List, map, ⊤}
use Rattle.std.specs.List.{AllByRecursion}
use Rattle.std.specs.FinMap.{get}
use Rattle.su_bytes.specs.Name.{is_name}
use Rattle.su_bytes.specs.Place.{Place}
use Rattle.su_node.specs.declared.blocks.TheConstants.{BLOCK_SIZE}
use Rattle.su_node.specs.Field.{Field.SizeOf}
use Rattle.su_node.specs.Inode.{bytes_of}
use Rattle.su_table.specs.Cell.{Cell.At, Cell.Pointer, val}
use Rattle.su_table.specs.Query.{is_nothing, is_name_free_at, size_at}
use Rattle.su_table.specs.Tree.{Tree}
use Rattle.su_op.specs.declared.areas.Part.TheVariants.{Name as NamePart}
use Rattle.su_op.specs.declared.areas.Area.{Area}
use Rattle.su_op.specs.declared.areas.Area.TheVariants.{Inode as InodeArea, Pointer as PointerArea}
use Rattle.su_op.specs.Area.{has, in_run}
use Rattle.su_part.specs.Known.{Want.AnInode, Want.AName, Want.ABlock}
use Rattle.su_part_forest.specs.Known.{Want, Want.OfUser, Want.OfGroup, Knows}
use Rattle.su_part_forest.specs.declared.forests.PartForest.{PartForest}
use Rattle.su_inverse.specs.Kept.{blocks_area, reset_area, size_area, HoldsBlocks, HoldsReset, HoldsSize}
use Rattle.su_inverse.specs.declared.contents.KeptBlocks.{KeptBlocks}
use Rattle.su_inverse.specs.declared.contents.KeptSize.{KeptSize}
use Rattle.su_inverse.specs.declared.resets.Reset.{Reset}
use Rattle.su_part_inverse.specs.Kept.{inode_area, runs, HoldsReturn}
use Rattle.su_part_inverse.specs.declared.inverses.Inverse.{Inverse}
use Rattle.su_part_inverse.specs.declared.returns.KeptInode.{KeptInode}
use Rattle.su_part_inverse.specs.declared.returns.Overwritten.{Overwritten}
use Rattle.su_part_inverse.specs.declared.returns.Overwritten.TheVariants.{Name as NameOverwritten, Pointer as PointerOverwritten}
use Rattle.su_part_inverse.specs.declared.returns.Return.{Return}
use Rattle.su_part_inverse.specs.declared.returns.Return.TheVariants.{Name as NameReturn, Pointer as PointerReturn}

-- ---- what an area asks for

-- the pointer, the name, or else the inode
abbrev pub want_of : Area → Want
want_of (InodeArea p (NamePart x)) = OfUser p.0 (AName p.1 x)
want_of (InodeArea p a) = OfUser p.0 (AnInode p.1)
want_of (PointerArea g) = OfGroup g

-- its number and its name are in their ranges
abbrev pub IsMeant : Area → Type 0
IsMeant (InodeArea p (NamePart x)) = (p.1 < 2 ^ 32) × IsTrue (is_name x)
IsMeant (InodeArea p a) = p.1 < 2 ^ 32
IsMeant (PointerArea g) = ⊤

abbrev pub KnowsArea : Tree → PartForest → Area → Type 0
KnowsArea F f a = IsMeant a → Knows F (want_of a) f

-- of each inode that is known of f, which stands for F, it is known of g, which stands for G
abbrev pub InodesStayKnown : Tree → Tree → PartForest → PartForest → Type 0
InodesStayKnown F G f g =
    (p : Place) → Knows F (OfUser p.0 (AnInode p.1)) f → Knows G (OfUser p.0 (AnInode p.1)) g

-- ---- blocks

-- block n of the file at p is known
abbrev pub KnowsBlock : Tree → PartForest → Place → ℕ → Type 0
KnowsBlock F f p n = p.1 < 2 ^ 32 → Knows F (OfUser p.0 (ABlock p.1 n)) f

-- so from the block on in which the file ends after a cut to that size
abbrev pub KnowsEnd : Tree → PartForest → Place → ℕ → Type 0
KnowsEnd F f p size =
    (n : ℕ) → size / BLOCK_SIZE ≤ n → BLOCK_SIZE * n < size_at F p → KnowsBlock F f p n

-- so of those that are kept
abbrev pub KnowsRun : Tree → PartForest → KeptBlocks → Type 0
KnowsRun F f k =
    (n : ℕ) → n < 4294967295 → in_run k.run n ≡ true → KnowsBlock F f k.place n

-- F has the bytes at p that T has
abbrev pub SameBytes : Tree → Tree → Place → Type 0
SameBytes F T p = bytes_of (get F.inodes p) ≡ bytes_of (get T.inodes p)

-- ---- what comes back with an inode

-- one of the inodes stood at the place: its size is a cell of theirs
abbrev pub stood_at : List KeptInode → Place → Bool
stood_at ks p = has (map inode_area ks) (At p SizeOf)

-- it is a name of a place at which one of the inodes stood
abbrev pub comes_with : List KeptInode → Return → Bool
comes_with ks (NameReturn p x f) = stood_at ks p
comes_with ks (PointerReturn g p) = false

-- Where one of all these inodes stood, F has what T has, but for those that are still to be brought
-- back.
abbrev pub AreBack : List KeptInode → List KeptInode → Tree → Tree → Type 0
AreBack left all F T = (p : Place) → stood_at all p ≡ true → stood_at left p ≡ false
    → get F.inodes p ≡ get T.inodes p

-- ---- what is left to do, where these inodes are still to be brought back

-- T has what these bring back, and inodes that are back are as in T
pub record ReturnsAreReady (left all : List KeptInode) (rs : List Return) (F T : Tree) : Type 0
  where
    pub back : AreBack left all F T
    pub held : AllByRecursion (HoldsReturn T) rs

-- The inode is known, and what a cut to its size needs; but where it is still to be brought back.
pub record SizeIsReady (left : List KeptInode) (F T : Tree) (f : PartForest) (k : KeptSize)
    : Type 0 where
  pub held : HoldsSize T k
  pub known : KnowsArea F f (size_area k)
  pub end_ : stood_at left k.place ≡ false → k.size < size_at F k.place
      → KnowsEnd F f k.place k.size

-- what it sets is known
pub record ResetIsReady (F T : Tree) (f : PartForest) (r : Reset) : Type 0 where
  pub held : HoldsReset T r
  pub known : KnowsArea F f (reset_area r)

-- the inode is known; and so are the blocks, or they need not be written
pub record BlocksAreReady (F T : Tree) (f : PartForest) (k : KeptBlocks) : Type 0 where
  pub held : HoldsBlocks T k
  pub known : KnowsArea F f (blocks_area k)
  pub blocks : SameBytes F T k.place ⊎ KnowsRun F f k

pub record AreReady (left : List KeptInode) (ks : List KeptSize) (rs : List Reset)
    (bs : List KeptBlocks) (F T : Tree) (f : PartForest) : Type 0 where
  pub sizes : AllByRecursion (SizeIsReady left F T f) ks
  pub resets : AllByRecursion (ResetIsReady F T f) rs
  pub blocks : AllByRecursion (BlocksAreReady F T f) bs

-- all of an inverse
abbrev pub IsReady : List KeptInode → Inverse → Tree → Tree → PartForest → Type 0
IsReady left i F T f = AreReady left i.sizes.items i.resets.items (runs i) F T f

-- ---- what was overwritten can be put back

-- where it stood
abbrev pub overwritten_area : Overwritten → Area
overwritten_area (NameOverwritten p x o) = InodeArea p (NamePart x)
overwritten_area (PointerOverwritten g o) = PointerArea g

-- where there was something, something is
abbrev pub HasRoom : Overwritten → Tree → Type 0
HasRoom (NameOverwritten p x o) F = is_some o ≡ true → is_name_free_at F p x ≡ false
HasRoom (PointerOverwritten g o) F = is_some o ≡ true → is_nothing (val F (Pointer g)) ≡ false
