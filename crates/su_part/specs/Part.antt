-- What a user's part stands for.
use Rattle.std.specs.Prelude.{false, ◌≡◌, ◌⊎◌, ◌≢◌, ◌<◌, ◌^◌, ℕ, IsTrue, List, Option, Some, None, IsSome, ⊤}
use Rattle.std.specs.List.{Contains}
use Rattle.std.specs.Map.{lookup}
use Rattle.std.specs.BTreeMap.{is_at}
use Rattle.std.specs.Ordering.{nat_cmp}
use Rattle.std.specs.FinMap.{get, entries}
use Rattle.su_bytes.specs.FileId.{is_file_id, file_id_bytes}
use Rattle.su_bytes.specs.Name.{is_name}
use Rattle.su_tree.specs.Number.{number_bits}
use Rattle.su_tree.specs.Name.{name_bits}
use Rattle.su_tree.specs.Collision.{encodings}
use Rattle.su_tree.specs.Number.{numbers}
use Rattle.su_tree.specs.Name.{names}
use Rattle.su_hash_tree.specs.Sort.{Sort, sort}
use Rattle.su_part_tree.specs.Part.{StandsFor, reaches, HasRoot, HasAll as HasTree}
use Rattle.su_node.specs.Name.{Name}
use Rattle.su_bytes.specs.declared.file_ids.FileId.{FileId}
use Rattle.su_node.specs.Inode.{Inode, Content, Content.Bytes, Content.Names}
use Rattle.su_node.specs.Digest.{inode_item}
use Rattle.su_node.specs.InodeChange.{with_name, map_bytes, with_bytes_at}
use Rattle.su_table.specs.Tree.{Tree}
use Rattle.su_table.specs.Handle.{user_table}
use Rattle.su_part.specs.Item.{MeantInode}
use Rattle.su_part.specs.Bytes.{number_sort, NoneClash, StandsBytes, BytesItem, HasAllBlocks, HasBlock, HasBlocks, HasBytes, HasWrite}
use Rattle.su_part.specs.declared.inodes.PartInode.{PartInode}
use Rattle.su_part.specs.declared.inodes.PartContent.{PartContent}
use Rattle.su_part.specs.declared.inodes.PartContent.TheVariants.{Bytes as PartBytes, Names as PartNames}
use Rattle.su_part.specs.declared.users.UserPart.{UserPart}

-- maps from names to file ids
abbrev pub name_sort : Sort (List ℕ) FileId
name_sort = sort name_bits (λ x. x) is_name file_id_bytes is_file_id

-- ---- inodes

abbrev pub StandsContent : PartContent → Content → Type 0
StandsContent (PartNames t) (Names m) = StandsFor name_sort t (entries m)
StandsContent (PartBytes b) (Bytes bs) = StandsBytes b bs
StandsContent _ _ = ⊥

-- The part stands for the inode: it has its home and links, and its content's part stands for the content.
pub record StandsInode (p : PartInode) (i : Inode) : Type 0 where
  pub home : p.home ≡ i.home
  pub links : p.links ≡ i.links
  pub content : StandsContent p.content i.content

-- the inode with a name that leads there, or is gone
abbrev pub with_named : Name → Option FileId → Inode → Inode
with_named x v i = record i { content = with_name x v i.content }

-- no stub stands on the name's path; a file has no names
abbrev pub HasNameIn : Name → PartContent → Type 0
HasNameIn x (PartNames t) = IsTrue (reaches name_bits x t)
HasNameIn x (PartBytes b) = ⊤

abbrev pub HasName : Name → PartInode → Type 0
HasName x p = HasNameIn x p.content

-- the root's node of a directory's names is loaded; a file has none
abbrev pub HasRootIn : PartContent → Type 0
HasRootIn (PartNames t) = HasRoot t
HasRootIn (PartBytes b) = ⊤

-- all names of a directory are loaded; a file has none
abbrev pub HasNamesIn : PartContent → Type 0
HasNamesIn (PartNames t) = HasTree t
HasNamesIn (PartBytes b) = ⊤

-- no stub stands on the path of any name, or of any block's number, and each block is loaded
abbrev pub IsAllIn : PartContent → Type 0
IsAllIn (PartNames t) = (x : Name) → IsTrue (reaches name_bits x t)
IsAllIn (PartBytes b) = (n : ℕ) → HasBlock n b

-- of these block numbers the paths are loaded, and the blocks that the file has; a directory has none
abbrev pub HasBlocksIn : ℕ → ℕ → PartContent → Type 0
HasBlocksIn first end_ (PartNames t) = ⊤
HasBlocksIn first end_ (PartBytes b) = HasBlocks first end_ b

-- the file's bytes within a range are loaded; a directory has none
abbrev pub HasBytesIn : ℕ → ℕ → PartContent → Type 0
HasBytesIn off len (PartNames t) = ⊤
HasBytesIn off len (PartBytes b) = HasBytes off len b

-- what a write of so many bytes from `off` on needs is loaded; a directory has none
abbrev pub HasWriteIn : ℕ → ℕ → PartContent → Type 0
HasWriteIn off len (PartNames t) = ⊤
HasWriteIn off len (PartBytes b) = HasWrite off len b

abbrev pub HasWriteOf : ℕ → ℕ → PartInode → Type 0
HasWriteOf off len p = HasWriteIn off len p.content

-- the inode with so many links, and with bytes that are written from an offset on
abbrev pub with_links : ℕ → Inode → Inode
with_links n i = record i { links = n }

abbrev pub with_written : ℕ → List ℕ → Inode → Inode
with_written off xs i = record i { content = map_bytes (with_bytes_at off xs) i.content }

-- ---- what is hashed

abbrev pub ContentItem : Content → List ℕ → Type 0
ContentItem (Names m) s = Contains (encodings (names file_id_bytes) (entries m)) s
ContentItem (Bytes bs) s = BytesItem bs s

-- a byte string that is hashed for the inode
abbrev pub InodeItemOf : Inode → List ℕ → Type 0
InodeItemOf i s = (s ≡ inode_item i) ⊎ ContentItem i.content s

-- a byte string that is hashed for the user's i-table, or for an inode of it
abbrev pub ItemOf : ℕ → Tree → List ℕ → Type 0
ItemOf u T s = Contains (encodings (numbers (λ d. d)) (user_table T u)) s
    ⊎ ((n : ℕ) × (i : Inode) × (get T.inodes (u, n) ≡ Some i) × InodeItemOf i s)

abbrev pub FreeInode : Inode → (List ℕ → Type 0) → Type 0
FreeInode i P = NoneClash (InodeItemOf i) P

abbrev pub Free : ℕ → Tree → (List ℕ → Type 0) → Type 0
Free u T P = NoneClash (ItemOf u T) P

-- ---- a user's part

abbrev pub at_number : List (ℕ × PartInode) → ℕ → Option PartInode
at_number es n = lookup (is_at (nat_cmp n)) es

abbrev pub MeantAt : Option Inode → Type 0
MeantAt None = ⊤
MeantAt (Some i) = MeantInode i

-- What user u has in T is in its ranges: the numbers of inodes, and their values.
pub record MeantUser (u : ℕ) (T : Tree) : Type 0 where
  pub numbers : (n : ℕ) → get T.inodes (u, n) ≢ None → n < 2 ^ 32
  pub inodes : (n : ℕ) → MeantAt (get T.inodes (u, n))

-- what is loaded stands for what is there
abbrev pub StandsAt : Option PartInode → Option Inode → Type 0
StandsAt None o = ⊤
StandsAt (Some p) None = ⊥
StandsAt (Some p) (Some i) = StandsInode p i

-- it stands for just what is there
abbrev pub StandsJust : Option PartInode → Option Inode → Type 0
StandsJust None o = o ≡ None
StandsJust (Some p) None = ⊥
StandsJust (Some p) (Some i) = StandsInode p i

-- of the content q so much is loaded as of p, or more
abbrev pub HasAllIn : PartContent → PartContent → Type 0
HasAllIn (PartNames t) (PartNames v) = (x : Name) → IsTrue (reaches name_bits x t) → IsTrue (reaches name_bits x v)
HasAllIn (PartBytes b) (PartBytes c) = HasAllBlocks b c
HasAllIn _ _ = ⊥

abbrev pub HasAllOf : Option PartInode → Option PartInode → Type 0
HasAllOf None o = ⊤
HasAllOf (Some p) None = ⊥
HasAllOf (Some p) (Some q) = HasAllIn p.content q.content

-- The part stands for what user u has in T.
pub record StandsUser (u : ℕ) (p : UserPart) (T : Tree) : Type 0 where
  pub table : StandsFor number_sort p.table (user_table T u)
  pub meant : (n : ℕ) → MeantAt (get T.inodes (u, n))
  pub inodes : (n : ℕ) → StandsAt (at_number p.inodes.entries n) (get T.inodes (u, n))

-- the number's path is loaded, and where T has an inode there it is loaded
pub record HasInode (n : ℕ) (p : UserPart) : Type 0 where
  pub path : IsTrue (reaches number_bits n p.table)
  pub there : (u : ℕ) (T : Tree) → StandsUser u p T → get T.inodes (u, n) ≢ None → IsSome (at_number p.inodes.entries n)

-- what is loaded there meets P
abbrev pub IfLoaded : (PartInode → Type 0) → Option PartInode → Type 0
IfLoaded P None = ⊤
IfLoaded P (Some p) = P p

-- the inode of the number is loaded, and so much of it that it meets P
pub record HasAt (n : ℕ) (P : PartInode → Type 0) (p : UserPart) : Type 0 where
  pub inode : HasInode n p
  pub part : IfLoaded P (at_number p.inodes.entries n)

-- what is loaded of p is loaded of q: the paths of numbers, the inodes, and of each so much
pub record HasAll (p q : UserPart) : Type 0 where
  pub paths : (n : ℕ) → IsTrue (reaches number_bits n p.table) → IsTrue (reaches number_bits n q.table)
  pub inodes : (n : ℕ) → HasAllOf (at_number p.inodes.entries n) (at_number q.inodes.entries n)

-- the number's path is loaded, and of an inode that is loaded there so much that it meets P
pub record IsOpenAt (n : ℕ) (P : PartInode → Type 0) (p : UserPart) : Type 0 where
  pub path : IsTrue (reaches number_bits n p.table)
  pub part : IfLoaded P (at_number p.inodes.entries n)

-- where T has an inode there, it is loaded
abbrev pub IsThere : ℕ → Tree → ℕ → UserPart → Type 0
IsThere u T n p = get T.inodes (u, n) ≢ None → IsSome (at_number p.inodes.entries n)

-- What an edit of the inode of a number leaves loaded, p being the part before it and q the one after it: the paths of
-- numbers, each inode, and of the other inodes all.
pub record StaysLoaded (n : ℕ) (p q : UserPart) : Type 0 where
  pub paths : (m : ℕ) → IsTrue (reaches number_bits m p.table) → IsTrue (reaches number_bits m q.table)
  pub there : (m : ℕ) → IsSome (at_number p.inodes.entries m) → IsSome (at_number q.inodes.entries m)
  pub others : (m : ℕ) → is_at (nat_cmp n) m ≡ false → at_number q.inodes.entries m ≡ at_number p.inodes.entries m

-- the inode, and the path of a name of it
abbrev pub HasNameAt : ℕ → Name → UserPart → Type 0
HasNameAt n x p = HasAt n (HasName x) p

-- the inode, and the root's node of its names
abbrev pub HasRootAt : ℕ → UserPart → Type 0
HasRootAt n p = HasAt n (λ i. HasRootIn i.content) p

-- the inode, and all of its names
abbrev pub HasNamesAt : ℕ → UserPart → Type 0
HasNamesAt n p = HasAt n (λ i. HasNamesIn i.content) p

-- the inode, the paths of these block numbers, and the blocks that it has there
abbrev pub HasBlocksAt : ℕ → ℕ → ℕ → UserPart → Type 0
HasBlocksAt n first end_ p = HasAt n (λ i. HasBlocksIn first end_ i.content) p

-- the inode, and its bytes within a range
abbrev pub HasBytesAt : ℕ → ℕ → ℕ → UserPart → Type 0
HasBytesAt n off len p = HasAt n (λ i. HasBytesIn off len i.content) p

-- the inode, and what a write of so many bytes from `off` on needs of it
abbrev pub HasWriteAt : ℕ → ℕ → ℕ → UserPart → Type 0
HasWriteAt n off len p = HasAt n (λ i. HasWriteIn off len i.content) p
