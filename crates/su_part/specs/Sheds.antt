-- What leaving something on a store tells.
use Rattle.std.specs.Prelude.{◌≡◌, ◌⊎◌, ℕ, List, ◌∷◌, ◌++◌, None, Some, Result, OnOk, IfErr}
use Rattle.std.specs.Int.{w32, to_be_bytes}
use Rattle.su_bytes.specs.FileId.{file_id_bytes}
use Rattle.su_bytes.specs.declared.refusals.Refusal.{Refusal}
use Rattle.su_bytes.specs.declared.refusals.Refusal.TheVariants.{SourceFailed, NoMemory}
use Rattle.su_block.specs.declared.failures.Failures.{Failures}
use Rattle.su_hash_tree.specs.Stands.{kept}
use Rattle.su_part_tree.specs.Part.{HasNone, IsItemIn}
use Rattle.su_part_tree.specs.Putting.{Took}
use Rattle.su_node.specs.Digest.{block_item}
use Rattle.su_table.specs.Tree.{Tree}
use Rattle.su_part.specs.Bytes.{number_sort, StandsBytes, BytesItem, loaded_block}
use Rattle.su_part.specs.Loads.{FailedAt}
use Rattle.su_part.specs.Part.{ContentItem, InodeItemOf, ItemOf, StandsContent, StandsInode, StandsUser, name_sort, at_number}
use Rattle.su_part.specs.declared.blocks.PartBytes.{PartBytes}
use Rattle.su_part.specs.declared.inodes.PartContent.{PartContent}
use Rattle.su_part.specs.declared.inodes.PartContent.TheVariants.{Bytes as LoadedBytes, Names as LoadedNames}
use Rattle.su_part.specs.declared.inodes.PartInode.{PartInode}
use Rattle.su_part.specs.declared.users.UserPart.{UserPart}

-- ---- items of what is loaded

-- s is the item of a node of the digests' tree that is loaded, or of a block that is
abbrev pub IsItemInBytes : PartBytes → List ℕ → Type 0
IsItemInBytes b s =
    IsItemIn number_sort b.digests s
    ⊎ ((n : ℕ) × (bytes : List ℕ) × (loaded_block b n ≡ Some bytes) × (s ≡ block_item bytes))

abbrev pub IsItemInContent : PartContent → List ℕ → Type 0
IsItemInContent (LoadedBytes b) s = IsItemInBytes b s
IsItemInContent (LoadedNames t) s = IsItemIn name_sort t s

-- what stands in an inode's item behind its home, but for its links
abbrev pub kind_in : PartContent → ℕ
kind_in (LoadedBytes b) = 0
kind_in (LoadedNames t) = 1

abbrev pub size_in : PartContent → ℕ
size_in (LoadedBytes b) = b.size
size_in (LoadedNames t) = 0

abbrev pub digest_in : PartContent → List ℕ
digest_in (LoadedBytes b) = kept b.digests.root
digest_in (LoadedNames t) = kept t.root

-- the item of an inode that is loaded
abbrev pub own_item : PartInode → List ℕ
own_item p =
    3 ∷ file_id_bytes p.home ++ kind_in p.content ∷ p.links
    ∷ to_be_bytes w32 (size_in p.content) ++ digest_in p.content

-- s is the item of the inode, or of something of its content that is loaded
abbrev pub IsItemInInode : PartInode → List ℕ → Type 0
IsItemInInode p s = (s ≡ own_item p) ⊎ IsItemInContent p.content s

-- s is the item of something that is loaded of the part
abbrev pub IsItemInUser : UserPart → List ℕ → Type 0
IsItemInUser p s =
    IsItemIn number_sort p.table s
    ⊎ ((n : ℕ) × (i : PartInode) × (at_number p.inodes.entries n ≡ Some i) × IsItemInInode i s)

-- ---- nothing is loaded

-- no node of a directory's names, no block of a file nor a node of the tree of their digests
abbrev pub HasNothingIn : PartContent → Type 0
HasNothingIn (LoadedBytes b) = HasNone b.digests × ((n : ℕ) → loaded_block b n ≡ None)
HasNothingIn (LoadedNames t) = HasNone t

-- no node of the table, and no inode
pub record HasNothing (p : UserPart) : Type 0 where
  pub table : HasNone p.table
  pub inodes : (n : ℕ) → at_number p.inodes.entries n ≡ None

-- ---- what a shed tells

-- What leaving the part p on the source s tells, which it made q and t, when it answered r. A part
-- may stand for each x with `Stands p x`, for which the byte strings of `Hashed x` are hashed;
-- `IsIn p` are the items of what is loaded of p.
pub record Sheds {P X S A : Type 0}
    (Stands : P → X → Type 0) (Hashed : X → List ℕ → Type 0) (IsIn : P → List ℕ → Type 0)
    (may_give : S → List ℕ → Type 0) (failed_of : S → Failures) (comes : S → S → Type 0)
    (puts : S → List ℕ → S → Type 0) (p q : P) (s t : S) (r : Result A Refusal) : Type 0 where
  -- whatever is answered, it stands for what it stood for
  pub stands : (x : X) → Stands p x → Stands q x
  -- where it is done, nothing is loaded that wasn't
  pub no_new : OnOk r ((i : List ℕ) → IsIn q i → IsIn p i)
  -- what wasn't put is still loaded
  pub not_lost : (i : List ℕ) → IsIn p i → Took comes puts s t i ⊎ IsIn q i
  -- nothing else is put
  pub more : (i : List ℕ) → may_give t i → may_give s i ⊎ IsIn p i
  pub hashed : (x : X) → Stands p x → (i : List ℕ) → IsIn p i → Hashed x i
  pub failed : (x : X) → Stands p x → IfErr r (FailedAt (Hashed x) (failed_of t))
  pub refused : IfErr r (λ e. (e ≡ SourceFailed) ⊎ (e ≡ NoMemory))
  pub follows : comes s t

module _ {S A : Type 0}
    (may_give : S → List ℕ → Type 0) (failed_of : S → Failures) (comes : S → S → Type 0)
    (puts : S → List ℕ → S → Type 0) where
  -- of a file's bytes
  abbrev pub ShedsBytes : PartBytes → PartBytes → S → S → Result A Refusal → Type 0
  ShedsBytes = Sheds StandsBytes BytesItem IsItemInBytes may_give failed_of comes puts

  -- of an inode's content
  abbrev pub ShedsContent : PartContent → PartContent → S → S → Result A Refusal → Type 0
  ShedsContent = Sheds StandsContent ContentItem IsItemInContent may_give failed_of comes puts

  -- of an inode
  abbrev pub ShedsInode : PartInode → PartInode → S → S → Result A Refusal → Type 0
  ShedsInode = Sheds StandsInode InodeItemOf IsItemInInode may_give failed_of comes puts

  -- of what a user has in a tree
  abbrev pub ShedsUser : UserPart → UserPart → S → S → Result A Refusal → Type 0
  ShedsUser =
      Sheds (λ p x. StandsUser x.0 p x.1) (λ (x : ℕ × Tree). ItemOf x.0 x.1) IsItemInUser
      may_give failed_of comes puts
