-- Cells: the pieces of a tree that operations read and write, and what each holds.
use Rattle.std.specs.Prelude.{Option, Some, None}
use Rattle.std.specs.FinMap.{get}
use Rattle.su_node.specs.Field.{Field, Value, Value.Nothing, Value.APlace, field_value}
use Rattle.su_bytes.specs.Place.{Place, GroupFile}
use Rattle.su_table.specs.Tree.{Tree}

-- the cells of a tree: those of the inode at a place, and the pointer of a group file
pub data Cell : Type 0 where
  At : Place → Field → Cell
  Pointer : GroupFile → Cell

abbrev pub place_value : Option Place → Value
place_value None = Nothing
place_value (Some p) = APlace p

-- the value of a cell in a tree
unfoldable pub val : Tree → Cell → Value
val T (At p f) = field_value (get T.inodes p) f
val T (Pointer g) = place_value (get T.pointers g)
