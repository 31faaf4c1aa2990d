-- What is known of a user's part: a thing is loaded, or what the part stands for has nothing there. So
-- a removal, which may leave a path at a stub, leaves all known that was.
use Rattle.std.specs.Prelude.{◌≡◌, ◌⊎◌, ℕ, ◌*◌, ◌<◌, ◌≤◌, ◌^◌, IsTrue, IsSome, List, length, Option, Some, None, ⊤}
use Rattle.std.specs.FinMap.{get}
use Rattle.su_bytes.specs.Name.{is_name}
use Rattle.su_tree.specs.Number.{number_bits}
use Rattle.su_tree.specs.Name.{name_bits}
use Rattle.su_part_tree.specs.Part.{reaches}
use Rattle.su_node.specs.Name.{Name}
use Rattle.su_node.specs.Inode.{Inode, Content, Content.Bytes, Content.Names}
use Rattle.su_node.specs.declared.blocks.TheConstants.{BLOCK_SIZE}
use Rattle.su_table.specs.Tree.{Tree}
use Rattle.su_part.specs.Bytes.{loaded_block}
use Rattle.su_part.specs.Part.{IfLoaded, IsThere, at_number}
use Rattle.su_part.specs.declared.blocks.PartBytes.{PartBytes}
use Rattle.su_part.specs.declared.inodes.PartInode.{PartInode}
use Rattle.su_part.specs.declared.inodes.PartContent.{PartContent}
use Rattle.su_part.specs.declared.inodes.PartContent.TheVariants.{Bytes as LoadedBytes, Names as PartNames}
use Rattle.su_part.specs.declared.users.UserPart.{UserPart}

-- ---- of a content

-- The path of block number k is loaded, or the file ends before that block; where it doesn't, the
-- block is loaded.
pub record KnowsBlockOf (k : ℕ) (b : PartBytes) (bs : List ℕ) : Type 0 where
  pub path : IsTrue (reaches number_bits k b.digests) ⊎ (length bs ≤ BLOCK_SIZE * k)
  pub there : BLOCK_SIZE * k < length bs → IsSome (loaded_block b k)

-- so of a content; a directory has no blocks
abbrev pub KnowsBlockIn : ℕ → PartContent → Content → Type 0
KnowsBlockIn k (LoadedBytes b) (Bytes bs) = KnowsBlockOf k b bs
KnowsBlockIn k _ _ = ⊤

-- the name's path is loaded, or the directory lacks the name; a file has no names
abbrev pub KnowsNameIn : Name → PartContent → Content → Type 0
KnowsNameIn x (PartNames t) (Names m) = IsTrue (reaches name_bits x t) ⊎ (get m x ≡ None)
KnowsNameIn x _ _ = ⊤

-- of an inode that stands there and is loaded P holds
abbrev pub OfLoaded : (PartContent → Content → Type 0) → Option PartInode → Option Inode → Type 0
OfLoaded P (Some p) (Some i) = P p.content i.content
OfLoaded P _ _ = ⊤

-- of an inode that is loaded there so much is that it meets P
abbrev pub HasIfLoaded : ℕ → (PartInode → Type 0) → UserPart → Type 0
HasIfLoaded n P p = IfLoaded P (at_number p.inodes.entries n)

-- ---- of a user's part

-- The number's path is loaded, or T has no inode there; where it has one, that is loaded.
pub record KnowsInode (u : ℕ) (T : Tree) (n : ℕ) (p : UserPart) : Type 0 where
  pub number : n < 2 ^ 32
  pub path : IsTrue (reaches number_bits n p.table) ⊎ (get T.inodes (u, n) ≡ None)
  pub there : IsThere u T n p

-- the inode is known, and of it the name
pub record KnowsName (u : ℕ) (T : Tree) (n : ℕ) (x : Name) (p : UserPart) : Type 0 where
  pub name : IsTrue (is_name x)
  pub inode : KnowsInode u T n p
  pub part : OfLoaded (KnowsNameIn x) (at_number p.inodes.entries n) (get T.inodes (u, n))

-- the inode is known, and of it block number k
pub record KnowsBlock (u : ℕ) (T : Tree) (n k : ℕ) (p : UserPart) : Type 0 where
  pub inode : KnowsInode u T n p
  pub part : OfLoaded (KnowsBlockIn k) (at_number p.inodes.entries n) (get T.inodes (u, n))

-- what may be wanted: the inode of a number, a name of it, a block of it
pub data Want : Type 0 where
  AnInode : ℕ → Want
  AName : ℕ → Name → Want
  ABlock : ℕ → ℕ → Want

-- the number of its inode
abbrev pub number_of : Want → ℕ
number_of (AnInode n) = n
number_of (AName n x) = n
number_of (ABlock n k) = n

abbrev pub Knows : ℕ → Tree → Want → UserPart → Type 0
Knows u T (AnInode n) p = KnowsInode u T n p
Knows u T (AName n x) p = KnowsName u T n x p
Knows u T (ABlock n k) p = KnowsBlock u T n k p

-- ---- what stays known

-- what is known of the part p for T is known of q for V
abbrev pub StaysKnown : ℕ → Tree → Tree → UserPart → UserPart → Type 0
StaysKnown u T V p q = (w : Want) → Knows u T w p → Knows u V w q

-- and of the content p for c is known of q for d
pub record StaysKnownIn (p : PartContent) (c : Content) (q : PartContent) (d : Content) : Type 0
  where
    pub names : (x : Name) → IsTrue (is_name x) → KnowsNameIn x p c → KnowsNameIn x q d
    pub blocks : (k : ℕ) → KnowsBlockIn k p c → KnowsBlockIn k q d

-- and of the bytes b for bs is known of c for ds
abbrev pub BytesStayKnown : PartBytes → List ℕ → PartBytes → List ℕ → Type 0
BytesStayKnown b bs c ds = (k : ℕ) → KnowsBlockOf k b bs → KnowsBlockOf k c ds
