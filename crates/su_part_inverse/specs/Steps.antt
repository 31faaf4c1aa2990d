-- What the steps of an undo make of a plain tree. Of a whole inode that is brought back that is the
-- one that stands in T, which is put back.
use Rattle.std.specs.Prelude.{List, map, Option, Some, None}
use Rattle.std.specs.FinMap.{get}
use Rattle.su_bytes.specs.declared.file_ids.FileId.TheVariants.{User}
use Rattle.su_bytes.specs.declared.file_ids.Kind.TheVariants.{File}
use Rattle.su_node.specs.Inode.{Inode, new_inode}
use Rattle.su_node.specs.InodeChange.{InodeChange.Named}
use Rattle.su_table.specs.Tree.{Tree}
use Rattle.su_table.specs.Edit.{Edit, Edit.Inodes, Edit.Pointers}
use Rattle.su_inverse.specs.Kept.{return_edit}
use Rattle.su_inverse.specs.declared.returns.Return.{Return as PlainReturn}
use Rattle.su_inverse.specs.declared.returns.Return.TheVariants.{Inode as PlainInode, Name as PlainName, Pointer as PlainPointer}
use Rattle.su_undone.specs.Undone.{brought_back, grown, cut, reset, written}
use Rattle.su_part_inverse.specs.Kept.{runs}
use Rattle.su_part_inverse.specs.declared.returns.KeptInode.{KeptInode}
use Rattle.su_part_inverse.specs.declared.returns.Overwritten.{Overwritten}
use Rattle.su_part_inverse.specs.declared.returns.Overwritten.TheVariants.{Name as NameOverwritten, Pointer as PointerOverwritten}
use Rattle.su_part_inverse.specs.declared.returns.Return.{Return}
use Rattle.su_part_inverse.specs.declared.returns.Return.TheVariants.{Name as NameReturn, Pointer as PointerReturn}
use Rattle.su_part_inverse.specs.declared.inverses.Inverse.{Inverse}

-- ---- what is brought back, as it is of a plain tree

-- the inode, if one stands there
abbrev pub or_new : Option Inode → Inode
or_new None = new_inode (User 0 0) File
or_new (Some i) = i

abbrev pub plain_inode : Tree → KeptInode → PlainReturn
plain_inode T k = PlainInode k.place (or_new (get T.inodes k.place))

abbrev pub plain_return : Return → PlainReturn
plain_return (NameReturn p x f) = PlainName p x f
plain_return (PointerReturn g p) = PlainPointer g p

-- the edits that bring it back
abbrev pub inode_edit : Tree → KeptInode → Edit
inode_edit T k = return_edit (plain_inode T k)

abbrev pub name_edit : Return → Edit
name_edit r = return_edit (plain_return r)

-- the edit that puts back what was overwritten by it
abbrev pub overwritten_edit : Overwritten → Edit
overwritten_edit (NameOverwritten p x o) = Inodes p (Named x o)
overwritten_edit (PointerOverwritten g o) = Pointers g o

-- ---- the steps, from the last ones on

-- files that are long enough are cut; links are set, and what wasn't there goes; blocks are written
abbrev pub finished : Inverse → Tree → Tree
finished i F = written (runs i) (reset i.resets.items (cut i.sizes.items F))

-- before that files are lengthened
abbrev pub lengthened : Inverse → Tree → Tree
lengthened i F = finished i (grown i.sizes.items F)

-- before that these names and pointers are brought back
abbrev pub returned : List Return → Inverse → Tree → Tree
returned rs i F = lengthened i (brought_back (map plain_return rs) F)

-- before that these inodes
abbrev pub restored : Tree → List KeptInode → Inverse → Tree → Tree
restored T ks i F = returned i.returns.items i (brought_back (map (plain_inode T) ks) F)
