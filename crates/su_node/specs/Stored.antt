-- How the bytes of a file are stored: in blocks.
use Rattle.std.specs.Prelude.{◌≡◌, ℕ, ◌+◌, ◌-◌, ◌*◌, ◌<◌, List, [], length, map, min, cond, nat_eq, slice_index_or, slice_set, IsSome}
use Rattle.std.specs.List.{concat, enumerate_from, AllByRecursion}
use Rattle.std.specs.Ordering.{nat_cmp}
use Rattle.std.specs.FinMap.Entries.{find}
use Rattle.sha2.specs.Sha256.{sha256}
use Rattle.su_node.specs.Digest.{block_item}
use Rattle.su_node.specs.declared.blocks.TheConstants.{BLOCK_SIZE}
use Rattle.su_node.specs.Field.{block}
use Rattle.su_node.specs.InodeChange.{with_size}

-- Each stored block is the block of that number of a file's bytes, and none lies past the end: so each is full but the last.
pub record AreBlocksOf (blocks : List (List ℕ)) (bs : List ℕ) : Type 0 where
  pub each : (n : ℕ) → slice_index_or blocks n [] ≡ block n bs
  pub within : (n : ℕ) → n < length blocks → BLOCK_SIZE * n < length bs

-- The bytes of a file of that size are stored in these blocks.
pub record AreStored (blocks : List (List ℕ)) (size : ℕ) : Type 0 where
  pub blocks_of : AreBlocksOf blocks (concat blocks)
  pub size_of : size ≡ length (concat blocks)

-- the digests of blocks by their numbers, which begin at 0
abbrev pub digests_of : List (List ℕ) → List (ℕ × List ℕ)
digests_of blocks = enumerate_from 0 (map (λ b. sha256 (block_item b)) blocks)

-- a pair has that number
abbrev pub HasNumber : ℕ → List (ℕ × List ℕ) → Type 0
HasNumber number pairs = IsSome (find nat_cmp number pairs)

-- all numbers are below a bound
abbrev pub AreBelow : ℕ → List (ℕ × List ℕ) → Type 0
AreBelow bound pairs = AllByRecursion (λ e. e.0 < bound) pairs

-- blocks with zeros behind the last of the first `count`, if there is one, up to where it is full
-- or a file of that size ends
abbrev pub with_padded : ℕ → ℕ → List (List ℕ) → List (List ℕ)
with_padded count size blocks =
    let last = count - 1 in
    cond (nat_eq count 0) blocks
    (slice_set blocks last (with_size (min BLOCK_SIZE (size - BLOCK_SIZE * last)) (slice_index_or blocks last [])))

-- what one block holds of the zeros in a file of that size: the block numbers begin at `first`
abbrev pub AreZeroBlocks : List (List ℕ) → ℕ → ℕ → Type 0
AreZeroBlocks blocks first size = (k : ℕ) → k < length blocks
    → slice_index_or blocks k [] ≡ with_size (min BLOCK_SIZE (size - BLOCK_SIZE * (first + k))) []
