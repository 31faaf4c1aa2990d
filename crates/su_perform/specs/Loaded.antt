-- What is loaded of a forest of parts, area by area.
use Rattle.std.specs.Prelude.{ℕ, ◌+◌, List, [], ◌∷◌, min, IfSome, ⊤}
use Rattle.su_bytes.specs.Place.{Place}
use Rattle.su_table.specs.Tree.{Tree}
use Rattle.su_op.specs.declared.areas.BlockRun.{BlockRun}
use Rattle.su_op.specs.declared.areas.Part.{Part}
use Rattle.su_op.specs.declared.areas.Part.TheVariants.{Kind as KindPart, Links as LinksPart, Size as SizePart, Name as NamePart, Blocks as BlocksPart, Whole as WholePart}
use Rattle.su_op.specs.declared.areas.Area.{Area}
use Rattle.su_op.specs.declared.areas.Area.TheVariants.{Inode as InodeArea, Pointer as PointerArea}
use Rattle.su_part.specs.Fetches.{HasWanted}
use Rattle.su_part.specs.Part.{IsOpenAt, IsThere}
use Rattle.su_part.specs.declared.fetches.Wanted.{Wanted}
use Rattle.su_part.specs.declared.fetches.Wanted.TheVariants.{Nothing, Name as NameOf, Blocks}
use Rattle.su_part_forest.specs.Forest.{HasPointerAt, user_part}
use Rattle.su_part_forest.specs.declared.forests.PartForest.{PartForest}

-- The path of the place is loaded, and what is wanted of an inode that is loaded there; where T has
-- an inode there, that is loaded.
abbrev pub OpenAt : Tree → Place → Wanted → PartForest → Type 0
OpenAt T p w f =
    IfSome (user_part p.0 f) (λ q. IsOpenAt p.1 (HasWanted w) q × IsThere p.0 T p.1 q)

-- the number behind the last block of a run, or the greatest of all numbers
abbrev pub end_of : BlockRun → ℕ
end_of r = min (r.first + r.more + 1) 4294967295

-- what is wanted of an inode for a part of its cells
abbrev pub wanted_for : Part → Wanted
wanted_for KindPart = Nothing
wanted_for LinksPart = Nothing
wanted_for SizePart = Nothing
wanted_for WholePart = Nothing
wanted_for (NamePart x) = NameOf x
wanted_for (BlocksPart r) = Blocks r.first (end_of r)

-- What stands in the area is loaded of f, which stands for T; of an inode as a whole, what stands
-- there but its content.
abbrev pub HasArea : Tree → PartForest → Area → Type 0
HasArea T f (InodeArea p a) = OpenAt T p (wanted_for a) f
HasArea T f (PointerArea g) = HasPointerAt g f

-- so of each of the areas
abbrev pub HasAreas : Tree → PartForest → List Area → Type 0
HasAreas T f [] = ⊤
HasAreas T f (a ∷ w) = HasArea T f a × HasAreas T f w
