-- Edits: the single changes of a tree of which operations are made.
use Rattle.std.specs.Prelude.{◌≡◌, ℕ, List, [], ◌∷◌, ◌++◌, Option, Some, None}
use Rattle.std.specs.FinMap.{get}
use Rattle.su_bytes.specs.declared.file_ids.FileId.{FileId}
use Rattle.su_node.specs.Name.{Name}
use Rattle.su_bytes.specs.Place.{Place, GroupFile}
use Rattle.su_node.specs.Inode.{Inode, Content.Bytes, Content.Names}
use Rattle.su_node.specs.InodeChange.{InodeChange, InodeChange.Made, InodeChange.Named, InodeChange.Linked, InodeChange.Written, InodeChange.Resized, InodeChange.Copied, InodeChange.Gone, inode_after, set_key}
use Rattle.su_table.specs.Tree.{Tree}

pub data Edit : Type 0 where
  -- of what stands at a place
  Inodes : Place → InodeChange → Edit
  -- the pointer of a group file points there, or is gone
  Pointers : GroupFile → Option Place → Edit

unfoldable pub edit : Tree → Edit → Tree
edit T (Inodes p ch) = record T { inodes = set_key T.inodes p (inode_after ch (get T.inodes p)) }
edit T (Pointers g v) = record T { pointers = set_key T.pointers g v }

-- one after another
abbrev pub edits : Tree → List Edit → Tree
edits T [] = T
edits T (e ∷ es) = edits (edit T e) es

-- ---- putting back

abbrev pub restoring : Option Inode → InodeChange
restoring None = Gone
restoring (Some i) = Copied i

abbrev pub name_in : Option Inode → Name → Option FileId
name_in None x = None
name_in (Some i) x = elim i.content [ Bytes bs ↦ None | Names m ↦ get m x ]

abbrev pub links_in : Option Inode → ℕ
links_in None = 0
links_in (Some i) = i.links

abbrev pub change_back : Option Inode → InodeChange → InodeChange
change_back o (Named x v) = Named x (name_in o x)
change_back o (Linked n) = Linked (links_in o)
change_back o (Made home kind) = restoring o
change_back o (Written size off xs) = restoring o
change_back o (Resized size new_size) = restoring o
change_back o (Copied i) = restoring o
change_back o Gone = restoring o

-- the edit that puts back what an edit of T overwrites
unfoldable pub back : Tree → Edit → Edit
back T (Inodes p ch) = Inodes p (change_back (get T.inodes p) ch)
back T (Pointers g v) = Pointers g (get T.pointers g)

-- the edits that take back edits of T, the last one first
abbrev pub edits_back : Tree → List Edit → List Edit
edits_back T [] = []
edits_back T (e ∷ es) = edits_back (edit T e) es ++ (back T e ∷ [])

-- edits can be taken back: what was overwritten is put back, and the tree is the one before
abbrev pub EditsCanBeTakenBack : Type 0
EditsCanBeTakenBack = (T : Tree) (es : List Edit) → edits (edits T es) (edits_back T es) ≡ T
