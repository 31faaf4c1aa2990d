-- What may be wanted of an inode's content, and what its load tells of a user's part, of an inode,
-- and of a file's bytes.
use Rattle.std.specs.Prelude.{ℕ, List, IsTrue, Result, ⊤}
use Rattle.std.specs.List.{Contains}
use Rattle.su_bytes.specs.FileId.{file_id_bytes}
use Rattle.su_bytes.specs.declared.file_ids.FileId.{FileId}
use Rattle.su_bytes.specs.declared.refusals.Refusal.{Refusal}
use Rattle.su_block.specs.declared.failures.Failures.{Failures}
use Rattle.su_tree.specs.Collision.{encodings}
use Rattle.su_tree.specs.Name.{name_bits, names}
use Rattle.su_tree.specs.Number.{number_bits, numbers}
use Rattle.su_part_tree.specs.declared.parts.PartTree.{PartTree}
use Rattle.su_part_tree.specs.Part.{StandsFor, reaches}
use Rattle.su_node.specs.Name.{Name}
use Rattle.su_table.specs.Tree.{Tree}
use Rattle.su_part.specs.Bytes.{number_sort, StandsBytes, BytesItem, HasAllBlocks}
use Rattle.su_part.specs.Cut.{HasCutIn}
use Rattle.su_part.specs.Loads.{FailedAt, Loads}
use Rattle.su_part.specs.Part.{name_sort, StandsInode, StandsUser, InodeItemOf, ItemOf, HasAll, HasAllIn, HasNameIn, HasRootIn, HasNamesIn, HasBlocksIn, HasBytesIn, HasWriteIn, HasAt}
use Rattle.su_part.specs.declared.blocks.PartBytes.{PartBytes}
use Rattle.su_part.specs.declared.fetches.Wanted.{Wanted}
use Rattle.su_part.specs.declared.fetches.Wanted.TheVariants.{Nothing, Name as NameOf, Root, Names as AllNames, Blocks, Bytes as BytesWithin, Write, Cut as CutTo}
use Rattle.su_part.specs.declared.inodes.PartContent.{PartContent}
use Rattle.su_part.specs.declared.inodes.PartInode.{PartInode}
use Rattle.su_part.specs.declared.users.UserPart.{UserPart}

-- ---- what is wanted

-- that of the content is loaded
abbrev pub HasWantedIn : Wanted → PartContent → Type 0
HasWantedIn Nothing c = ⊤
HasWantedIn (NameOf x) c = HasNameIn x c
HasWantedIn Root c = HasRootIn c
HasWantedIn AllNames c = HasNamesIn c
HasWantedIn (Blocks first end_) c = HasBlocksIn first end_ c
HasWantedIn (BytesWithin off len) c = HasBytesIn off len c
HasWantedIn (Write off len) c = HasWriteIn off len c
HasWantedIn (CutTo size) c = HasCutIn size c

abbrev pub HasWanted : Wanted → PartInode → Type 0
HasWanted w p = HasWantedIn w p.content

-- the inode of the number, and that of its content
abbrev pub HasWantedAt : ℕ → Wanted → UserPart → Type 0
HasWantedAt n w p = HasAt n (HasWanted w) p

-- ---- what a load tells

-- Where the refusal is a failure of the source, the newest of its failures was about an item of
-- what user u has in T.
abbrev pub FailedAtPart : ℕ → Tree → Failures → Refusal → Type 0
FailedAtPart u T failures e = FailedAt (ItemOf u T) failures e

-- the paths of numbers, or of names, that are loaded of v are loaded of w
abbrev pub KeepsNumbers : PartTree ℕ (List ℕ) → PartTree ℕ (List ℕ) → Type 0
KeepsNumbers v w =
    (n : ℕ) → IsTrue (reaches number_bits n v) → IsTrue (reaches number_bits n w)

abbrev pub KeepsNames : PartTree Name FileId → PartTree Name FileId → Type 0
KeepsNames v w = (x : Name) → IsTrue (reaches name_bits x v) → IsTrue (reaches name_bits x w)

module _ {S A : Type 0}
    (may_give : S → List ℕ → Type 0) (failed_of : S → Failures) (comes : S → S → Type 0) where
  -- of a tree of numbers and digests
  abbrev pub LoadsDigests :
      PartTree ℕ (List ℕ) → PartTree ℕ (List ℕ) → S → S → Result A Refusal → Type 0
  LoadsDigests =
      Loads (StandsFor number_sort) (λ m. Contains (encodings (numbers (λ d. d)) m)) KeepsNumbers
      may_give failed_of comes

  -- of a tree of names
  abbrev pub LoadsNames :
      PartTree Name FileId → PartTree Name FileId → S → S → Result A Refusal → Type 0
  LoadsNames =
      Loads (StandsFor name_sort) (λ m. Contains (encodings (names file_id_bytes) m)) KeepsNames
      may_give failed_of comes

  -- of a file's bytes
  abbrev pub LoadsBytes : PartBytes → PartBytes → S → S → Result A Refusal → Type 0
  LoadsBytes = Loads StandsBytes BytesItem HasAllBlocks may_give failed_of comes

  -- of an inode
  abbrev pub LoadsInode : PartInode → PartInode → S → S → Result A Refusal → Type 0
  LoadsInode =
      Loads StandsInode InodeItemOf (λ p q. HasAllIn p.content q.content) may_give failed_of comes

  -- of what a user has in a tree
  abbrev pub LoadsUser : UserPart → UserPart → S → S → Result A Refusal → Type 0
  LoadsUser =
      Loads (λ p x. StandsUser x.0 p x.1) (λ (x : ℕ × Tree). ItemOf x.0 x.1) HasAll
      may_give failed_of comes
