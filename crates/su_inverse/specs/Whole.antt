-- What is kept of areas whatever stands there.
use Rattle.std.specs.Prelude.{◌≡◌, true, cond, List}
use Rattle.su_bytes.specs.Place.{Place}
use Rattle.su_node.specs.Field.{Field.KindOf}
use Rattle.su_table.specs.Tree.{Tree}
use Rattle.su_table.specs.Cell.{Cell.At}
use Rattle.su_table.specs.Query.{is_free_at}
use Rattle.su_op.specs.declared.areas.Part.TheVariants.{Kind as KindPart, Whole as WholePart}
use Rattle.su_op.specs.declared.areas.Area.{Area}
use Rattle.su_op.specs.declared.areas.Area.TheVariants.{Inode as InodeArea}
use Rattle.su_op.specs.Area.{has}
use Rattle.su_op.specs.Soundness.{WholeOrNew}

-- the area; but of the kind of what stands in T, all of that inode
abbrev pub made_whole : Tree → Area → Area
made_whole T (InodeArea p KindPart) =
    cond (is_free_at T p) (InodeArea p KindPart) (InodeArea p WholePart)
made_whole T a = a

-- who writes the kind of an inode writes all of it, or makes it
abbrev pub KindsChangeWhole : Tree → List Area → Type 0
KindsChangeWhole T w = (p : Place) → has w (At p KindOf) ≡ true → WholeOrNew T p (has w)
