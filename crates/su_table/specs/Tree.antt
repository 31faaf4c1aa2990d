-- The plain tree of a store: all users' i-tables as one map, all groups' i-tables as another. (SUNDR, section 3.)
use Rattle.std.specs.FinMap.{FinMap, insert, empty}
use Rattle.su_bytes.specs.declared.file_ids.FileId.TheVariants.{Group}
use Rattle.su_bytes.specs.declared.file_ids.Kind.TheVariants.{Dir}
use Rattle.su_bytes.specs.Place.{Place, place_cmp}
use Rattle.su_node.specs.Inode.{Inode, new_inode}

pub record Tree : Type 0 where
  -- from a user and an i-number to the inode that stands there
  pub inodes : FinMap place_cmp Inode
  -- from a group and a number to the place of the group file's body
  pub pointers : FinMap place_cmp Place

-- The tree before the first operation: the root directory is number 1 of group 0, an empty directory that stands at
-- number 1 of user 0.
unfoldable pub genesis : Tree
genesis = record {
  inodes = insert empty (0, 1) (new_inode (Group 0 1) Dir);
  pointers = insert empty (0, 1) (0, 1);
}
