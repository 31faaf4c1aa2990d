-- The cells of an inode, and what a cell holds.
use Rattle.std.specs.Prelude.{ℕ, ◌*◌, List, [], ◌∷◌, take, drop, Option, Some, None}
use Rattle.std.specs.FinMap.{get}
use Rattle.su_bytes.specs.declared.file_ids.FileId.{FileId}
use Rattle.su_bytes.specs.declared.file_ids.Kind.{Kind}
use Rattle.su_node.specs.Name.{Name}
use Rattle.su_node.specs.declared.blocks.TheConstants.{BLOCK_SIZE}
use Rattle.su_node.specs.Inode.{Inode, Content, Content.Bytes, Content.Names, kind_of, size_of}

-- its kind and home, its links, its size, each block of its bytes, each name
pub data Field : Type 0 where
  KindOf LinksOf SizeOf : Field
  BlockOf : ℕ → Field
  NameOf : Name → Field

-- what a cell may hold; a place is what the entry of a group file holds
pub data Value : Type 0 where
  Nothing : Value
  AKind : Kind → FileId → Value
  ANumber : ℕ → Value
  ABlock : List ℕ → Value
  AFile : FileId → Value
  APlace : ℕ × ℕ → Value

-- block n of a file's bytes: each block has 4,096 bytes, but for the last one, which may have fewer
unfoldable pub block : ℕ → List ℕ → List ℕ
block n bs = take BLOCK_SIZE (drop (BLOCK_SIZE * n) bs)

-- a block that has no byte is no block
abbrev pub block_value : List ℕ → Value
block_value [] = Nothing
block_value (b ∷ bs) = ABlock (b ∷ bs)

abbrev pub file_value : Option FileId → Value
file_value None = Nothing
file_value (Some f) = AFile f

abbrev pub content_value : Content → ℕ → FileId → Field → Value
content_value c links home KindOf = AKind (kind_of c) home
content_value c links home LinksOf = ANumber links
content_value c links home SizeOf = ANumber (size_of c)
content_value (Bytes bs) links home (BlockOf n) = block_value (block n bs)
content_value (Bytes bs) links home (NameOf x) = Nothing
content_value (Names m) links home (BlockOf n) = Nothing
content_value (Names m) links home (NameOf x) = file_value (get m x)

-- the value of a cell of an inode; without an inode there is none
abbrev pub field_value : Option Inode → Field → Value
field_value None f = Nothing
field_value (Some i) f = content_value i.content i.links i.home f
