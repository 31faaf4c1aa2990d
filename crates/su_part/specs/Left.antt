-- Blocks of a file that are left on a store and put back as they are: of each the part has its
-- digest alone.
use Rattle.std.specs.Prelude.{◌≡◌, ◌≢◌, ◌⊎◌, ℕ, ◌*◌, ◌<◌, ◌≤◌, IsTrue, List, length, map, Option, Some, None, cond, ⊤}
use Rattle.std.specs.BTreeMap.{is_at}
use Rattle.std.specs.FinMap.{get}
use Rattle.std.specs.List.{range_with_len}
use Rattle.std.specs.Ordering.{nat_cmp}
use Rattle.sha2.specs.Sha256.{sha256}
use Rattle.su_bytes.specs.Name.{is_name}
use Rattle.su_tree.specs.Number.{number_bits}
use Rattle.su_hash_tree.specs.Edits.{value_at, with_value}
use Rattle.su_part_tree.specs.Part.{StandsFor, reaches}
use Rattle.su_node.specs.declared.blocks.TheConstants.{BLOCK_SIZE}
use Rattle.su_node.specs.Field.{block}
use Rattle.su_node.specs.Digest.{block_item, block_count}
use Rattle.su_node.specs.Inode.{Inode, Content, Content.Bytes, Content.Names}
use Rattle.su_node.specs.InodeChange.{with_bytes_at}
use Rattle.su_node.specs.Name.{Name}
use Rattle.su_table.specs.Tree.{Tree}
use Rattle.su_part.specs.Bytes.{number_sort, loaded_block}
use Rattle.su_part.specs.Known.{KnowsBlockIn, KnowsInode, KnowsNameIn, Knows, OfLoaded, Want, Want.ABlock}
use Rattle.su_part.specs.Part.{at_number}
use Rattle.su_part.specs.declared.blocks.PartBytes.{PartBytes}
use Rattle.su_part.specs.declared.inodes.PartInode.{PartInode}
use Rattle.su_part.specs.declared.inodes.PartContent.{PartContent}
use Rattle.su_part.specs.declared.inodes.PartContent.TheVariants.{Bytes as LoadedBytes, Names as LoadedNames}
use Rattle.su_part.specs.declared.users.UserPart.{UserPart}

-- ---- the digests of blocks

-- Where xs is written into the bytes bs from block number `first` on, these are the digests of the
-- blocks that it reaches into, as they are then, in their order.
abbrev pub AreDigests : ℕ → List ℕ → List ℕ → List (List ℕ) → Type 0
AreDigests first xs bs ds =
    ds ≡ map (λ n. sha256 (block_item (block n (with_bytes_at (BLOCK_SIZE * first) xs bs))))
    (range_with_len first (block_count (length xs)))

-- so of a content; a directory has no blocks
abbrev pub AreDigestsIn : ℕ → List ℕ → Content → List (List ℕ) → Type 0
AreDigestsIn first xs (Bytes bs) ds = AreDigests first xs bs ds
AreDigestsIn first xs (Names m) ds = ⊤

-- and of an inode, if one stands there
abbrev pub AreDigestsOf : ℕ → List ℕ → Option Inode → List (List ℕ) → Type 0
AreDigestsOf first xs None ds = ⊤
AreDigestsOf first xs (Some i) ds = AreDigestsIn first xs i.content ds

-- ---- what is loaded

-- no stub stands on the paths of the block numbers from `first` on and before `end`
abbrev pub HasPaths : ℕ → ℕ → PartBytes → Type 0
HasPaths first end_ b =
    (n : ℕ) → first ≤ n → n < end_ → IsTrue (reaches number_bits n b.digests)

-- so of a content; a directory has none
abbrev pub HasPathsIn : ℕ → ℕ → PartContent → Type 0
HasPathsIn first end_ (LoadedNames t) = ⊤
HasPathsIn first end_ (LoadedBytes b) = HasPaths first end_ b

abbrev pub HasPathsOf : ℕ → ℕ → PartInode → Type 0
HasPathsOf first end_ p = HasPathsIn first end_ p.content

-- ---- what is put

-- The block of that number, of which there is a digest, is left with this digest now, and nothing
-- else is another one.
pub record IsLeft (number : ℕ) (digest : List ℕ) (b c : PartBytes) : Type 0 where
  pub size : c.size ≡ b.size
  pub digests : (m : List (ℕ × List ℕ)) → StandsFor number_sort b.digests m
      → value_at number_bits number m ≢ None
      → StandsFor number_sort c.digests (with_value number_bits number digest m)
  pub blocks : (n : ℕ)
      → loaded_block c n ≡ cond (is_at (nat_cmp number) n) None (loaded_block b n)

-- the number is none of those from `first` on and before `end`
abbrev pub IsOutside : ℕ → ℕ → ℕ → Type 0
IsOutside first end_ n = (n < first) ⊎ (end_ ≤ n)

-- The blocks of the numbers from `first` on and before `end` are loaded no more; all else is loaded
-- that was.
pub record LeavesBlocks (first end_ : ℕ) (b c : PartBytes) : Type 0 where
  pub paths : (n : ℕ) → IsTrue (reaches number_bits n b.digests)
      → IsTrue (reaches number_bits n c.digests)
  pub left : (n : ℕ) → first ≤ n → n < end_ → loaded_block c n ≡ None
  pub others : (n : ℕ) → IsOutside first end_ n → loaded_block c n ≡ loaded_block b n

-- ---- what stays known

-- The path of block number k is loaded, or the file ends before that block; a directory has no
-- blocks.
abbrev pub KnowsPathIn : ℕ → PartContent → Content → Type 0
KnowsPathIn k (LoadedBytes b) (Bytes bs) =
    IsTrue (reaches number_bits k b.digests) ⊎ (length bs ≤ BLOCK_SIZE * k)
KnowsPathIn k _ _ = ⊤

-- the inode is known, and of it the path of block number k
pub record KnowsPath (u : ℕ) (T : Tree) (n k : ℕ) (p : UserPart) : Type 0 where
  pub inode : KnowsInode u T n p
  pub part : OfLoaded (KnowsPathIn k) (at_number p.inodes.entries n) (get T.inodes (u, n))

-- What is known of the content p for c is known of q for d, but for the blocks of the numbers from
-- `first` on and before `end`; of all blocks the paths.
pub record StaysKnownInBut (first end_ : ℕ) (p : PartContent) (c : Content) (q : PartContent)
    (d : Content) : Type 0 where
  pub names : (x : Name) → IsTrue (is_name x) → KnowsNameIn x p c → KnowsNameIn x q d
  pub blocks : (k : ℕ) → IsOutside first end_ k → KnowsBlockIn k p c → KnowsBlockIn k q d
  pub paths : (k : ℕ) → KnowsPathIn k p c → KnowsPathIn k q d

-- it is no block of the inode of number n from number `first` on and before `end`
abbrev pub IsNoneOf : ℕ → ℕ → ℕ → Want → Type 0
IsNoneOf n first end_ (ABlock m k) = m ≡ n → IsOutside first end_ k
IsNoneOf n first end_ _ = ⊤

-- What is known of the part p for T is known of q for V, but for the blocks of the inode of number
-- n from number `first` on and before `end`; of all blocks the paths.
pub record StaysKnownBut (u n first end_ : ℕ) (T V : Tree) (p q : UserPart) : Type 0 where
  pub known : (w : Want) → IsNoneOf n first end_ w → Knows u T w p → Knows u V w q
  pub paths : (m k : ℕ) → KnowsPath u T m k p → KnowsPath u V m k q
