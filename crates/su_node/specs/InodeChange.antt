-- Changes of what stands at one place.
use Rattle.std.specs.Prelude.{ℕ, ◌+◌, ◌-◌, List, ◌++◌, take, drop, replicate, length, Option, Some, None}
use Rattle.std.specs.declared.cmp.Ordering.{Ordering}
use Rattle.std.specs.FinMap.{FinMap, insert, remove}
use Rattle.su_bytes.specs.declared.file_ids.FileId.{FileId}
use Rattle.su_bytes.specs.declared.file_ids.Kind.{Kind}
use Rattle.su_node.specs.Name.{Name}
use Rattle.su_node.specs.Inode.{Inode, Content, Content.Bytes, Content.Names, new_inode}

pub data InodeChange : Type 0 where
  -- a new inode, empty, with one link
  Made : FileId → Kind → InodeChange
  -- the name leads there, or is gone
  Named : Name → Option FileId → InodeChange
  -- so many links
  Linked : ℕ → InodeChange
  -- of a file of that size, the bytes from that offset on are these
  Written : ℕ → ℕ → List ℕ → InodeChange
  -- of a file of that size, the size is this
  Resized : ℕ → ℕ → InodeChange
  -- this inode in place of what stands there
  Copied : Inode → InodeChange
  Gone : InodeChange

-- a map with a key set, or taken away
abbrev pub set_key : {K X : Type 0} {R : K → K → Ordering} → FinMap R X → K → Option X → FinMap R X
set_key m k None = remove m k
set_key m k (Some x) = insert m k x

abbrev pub with_name : Name → Option FileId → Content → Content
with_name x v (Bytes bs) = Bytes bs
with_name x v (Names m) = Names (set_key m x v)

-- bytes cut to a size, or padded with zeros up to it
unfoldable pub with_size : ℕ → List ℕ → List ℕ
with_size size bs = take size bs ++ replicate (size - length bs) 0

-- bytes with xs from an offset on: a gap before xs is zeros, and what lies behind xs stays
unfoldable pub with_bytes_at : ℕ → List ℕ → List ℕ → List ℕ
with_bytes_at off xs bs = with_size off bs ++ (xs ++ drop (off + length xs) bs)

-- a file with other bytes; a directory has none
abbrev pub map_bytes : (List ℕ → List ℕ) → Content → Content
map_bytes f (Bytes bs) = Bytes (f bs)
map_bytes f (Names m) = Names m

-- What stands at a place after a change. The size before, which a write or a resize names, tells which cells it writes.
abbrev pub inode_after : InodeChange → Option Inode → Option Inode
inode_after (Made home kind) o = Some (new_inode home kind)
inode_after (Copied i) o = Some i
inode_after Gone o = None
inode_after (Named x v) None = None
inode_after (Named x v) (Some i) = Some (record i { content = with_name x v i.content })
inode_after (Linked n) None = None
inode_after (Linked n) (Some i) = Some (record i { links = n })
inode_after (Written size off xs) None = None
inode_after (Written size off xs) (Some i) = Some (record i { content = map_bytes (with_bytes_at off xs) i.content })
inode_after (Resized size new_size) None = None
inode_after (Resized size new_size) (Some i) = Some (record i { content = map_bytes (with_size new_size) i.content })
