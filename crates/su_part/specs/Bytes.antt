-- What a part of a file's bytes stands for, of which blocks may be left on a store.
use Rattle.std.specs.Prelude.{◌≡◌, ℕ, ◌+◌, ◌*◌, ◌/◌, ◌<◌, ◌≤◌, ◌⊎◌, IsTrue, IsSome, List, [], Option, Some, None, cond, length, min, ⊤}
use Rattle.std.specs.Option.{option_map}
use Rattle.su_hash_tree.specs.Edits.{with_value}
use Rattle.std.specs.List.{Contains}
use Rattle.std.specs.Map.{lookup}
use Rattle.std.specs.BTreeMap.{is_at}
use Rattle.std.specs.Ordering.{nat_cmp}
use Rattle.sha2.specs.Sha256.{sha256}
use Rattle.su_tree.specs.Number.{number_bits, number_bytes, is_u32, numbers}
use Rattle.su_tree.specs.Value.{is_digest}
use Rattle.su_tree.specs.Collision.{encodings}
use Rattle.su_hash_tree.specs.Sort.{Sort, sort}
use Rattle.su_part_tree.specs.Part.{StandsFor, reaches}
use Rattle.su_node.specs.declared.blocks.TheConstants.{BLOCK_SIZE}
use Rattle.su_node.specs.Field.{block}
use Rattle.su_node.specs.Digest.{block_item, block_count, block_digests}
use Rattle.su_part.specs.declared.blocks.PartBytes.{PartBytes}
use Rattle.su_part.specs.declared.blocks.Ready.{Ready}

-- maps from numbers to digests
abbrev pub number_sort : Sort ℕ (List ℕ)
number_sort = sort number_bits number_bytes is_u32 (λ d. d) is_digest

-- the byte string is the item of the block, which is none of more bytes than a block may have
abbrev pub SpellsBlock : List ℕ → List ℕ → Type 0
SpellsBlock bytes s = (s ≡ block_item bytes) × (length bytes ≤ BLOCK_SIZE)

-- the block that is loaded at a number
abbrev pub loaded_block : PartBytes → ℕ → Option (List ℕ)
loaded_block b n = lookup (is_at (nat_cmp n)) b.blocks.entries

-- a block that is loaded is the one of its number
abbrev pub IsBlockOf : List ℕ → ℕ → Option (List ℕ) → Type 0
IsBlockOf bs n None = ⊤
IsBlockOf bs n (Some bytes) = bytes ≡ block n bs

-- The part stands for the bytes: it has their size and stands for the digests of their blocks, and the blocks that are
-- loaded are theirs.
pub record StandsBytes (b : PartBytes) (bs : List ℕ) : Type 0 where
  pub size : b.size ≡ length bs
  pub digests : StandsFor number_sort b.digests (block_digests bs)
  pub blocks : (n : ℕ) → IsBlockOf bs n (loaded_block b n)

-- no stub stands on the path of a block's number, and the block is loaded where the file has it
pub record HasBlock (n : ℕ) (b : PartBytes) : Type 0 where
  pub path : IsTrue (reaches number_bits n b.digests)
  pub there : BLOCK_SIZE * n < b.size → IsSome (loaded_block b n)

-- q has each path and each block that p has, and the same size
pub record HasAllBlocks (p q : PartBytes) : Type 0 where
  pub size : q.size ≡ p.size
  pub paths : (n : ℕ) → IsTrue (reaches number_bits n p.digests)
      → IsTrue (reaches number_bits n q.digests)
  pub blocks : (n : ℕ) → HasBlock n p → HasBlock n q
  pub loaded : (n : ℕ) → IsSome (loaded_block p n) → IsSome (loaded_block q n)

-- so each number from `first` on and before `end`
abbrev pub HasBlocks : ℕ → ℕ → PartBytes → Type 0
HasBlocks first end_ b = (n : ℕ) → first ≤ n → n < end_ → HasBlock n b

-- each block with a byte of the file in the range is loaded
abbrev pub HasBytes : ℕ → ℕ → PartBytes → Type 0
HasBytes off len b = (n : ℕ) → off < BLOCK_SIZE * (n + 1) → BLOCK_SIZE * n < off + len → BLOCK_SIZE * n < b.size
    → IsSome (loaded_block b n)

-- What a write of so many bytes from `off` on needs: from the block on in which it begins, or the file ends before it, up to
-- the last that it touches.
abbrev pub HasWrite : ℕ → ℕ → PartBytes → Type 0
HasWrite off len b = HasBlocks (min off b.size / BLOCK_SIZE) (block_count (off + len)) b

-- What a cut to that size needs: from the block on in which the file ends then the paths of the
-- numbers of its blocks, and the block that the cut goes through.
pub record HasCut (size : ℕ) (b : PartBytes) : Type 0 where
  pub paths : (n : ℕ) → size / BLOCK_SIZE ≤ n → BLOCK_SIZE * n < b.size
      → IsTrue (reaches number_bits n b.digests)
  pub block : (n : ℕ) → BLOCK_SIZE * n < size → size < BLOCK_SIZE * (n + 1) → size < b.size
      → IsSome (loaded_block b n)

-- the block of that number is these bytes now, and nothing else is another one
pub record IsRewritten (number : ℕ) (bytes : List ℕ) (b c : PartBytes) : Type 0 where
  pub size : c.size ≡ b.size
  pub digests : (m : List (ℕ × List ℕ)) → StandsFor number_sort b.digests m
      → StandsFor number_sort c.digests (with_value number_bits number (sha256 (block_item bytes)) m)
  pub blocks : (n : ℕ) → loaded_block c n ≡ cond (is_at (nat_cmp number) n) (Some bytes) (loaded_block b n)

-- c is b with blocks of no bytes loaded behind the end of the file
pub record WithPlaces (b c : PartBytes) : Type 0 where
  pub size : c.size ≡ b.size
  pub digests : c.digests ≡ b.digests
  pub blocks : (n : ℕ) → (loaded_block c n ≡ loaded_block b n) ⊎ ((loaded_block c n ≡ Some []) × (b.size ≤ BLOCK_SIZE * n))

-- a block, if only one of no bytes, is loaded at each number from `first` on and before `end`
abbrev pub HasPlaces : ℕ → ℕ → PartBytes → Type 0
HasPlaces first end_ b = (n : ℕ) → first ≤ n → n < end_ → IsSome (loaded_block b n)

-- the block that is ready for a number
abbrev pub ready_at : List (ℕ × Ready) → ℕ → Option (List ℕ)
ready_at es n = option_map (λ r. r.block) (lookup (is_at (nat_cmp n)) es)

-- for each number from `first` on and before `end` the block of these bytes is ready
abbrev pub AreReady : ℕ → ℕ → List ℕ → List (ℕ × Ready) → Type 0
AreReady first end_ bs es = (n : ℕ) → first ≤ n → n < end_ → ready_at es n ≡ Some (block n bs)

-- a byte string that is hashed for the bytes: for the tree of their blocks' digests, or for a block
abbrev pub BytesItem : List ℕ → List ℕ → Type 0
BytesItem bs s = Contains (encodings (numbers (λ d. d)) (block_digests bs)) s ⊎ ((n : ℕ) × (s ≡ block_item (block n bs)))

-- no byte string that is hashed has the SHA-256 of another one that meets P
abbrev pub NoneClash : (List ℕ → Type 0) → (List ℕ → Type 0) → Type 0
NoneClash Q P = (a b : List ℕ) → Q a → P b → sha256 a ≡ sha256 b → a ≡ b
