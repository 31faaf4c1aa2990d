-- An area that is read where it is spelled: its name is lent.
use Rattle.su_op.specs.declared.areas.Part.{Part}
use Rattle.su_op.specs.declared.areas.Part.TheVariants.{Kind as KindPart, Links as LinksPart, Size as SizePart, Name as NamePart, Blocks as BlocksPart, Whole as WholePart}
use Rattle.su_op.specs.declared.areas.Area.{Area}
use Rattle.su_op.specs.declared.areas.Area.TheVariants.{Inode as InodeArea, Pointer as PointerArea}
use Rattle.su_kept_areas.specs.declared.lent.LentPart.{LentPart}
use Rattle.su_kept_areas.specs.declared.lent.LentPart.TheVariants as part
use Rattle.su_kept_areas.specs.declared.lent.LentArea.{LentArea}
use Rattle.su_kept_areas.specs.declared.lent.LentArea.TheVariants as area

-- the part that it is
abbrev pub part_of : LentPart → Part
part_of part.Kind = KindPart
part_of part.Links = LinksPart
part_of part.Size = SizePart
part_of part.Whole = WholePart
part_of (part.Blocks r) = BlocksPart r
part_of (part.Name x) = NamePart x.now

-- the area that it is
abbrev pub area_of : LentArea → Area
area_of (area.Inode p a) = InodeArea p (part_of a)
area_of (area.Pointer g) = PointerArea g
