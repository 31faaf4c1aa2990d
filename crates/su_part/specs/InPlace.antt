-- What is done in place to the blocks of a file.
use Rattle.std.specs.Prelude.{◌≡◌, ◌≢◌, ℕ, ◌<◌, ◌≤◌, IsTrue, IsSome, List, [], Option, Some, None, cond, nat_lt, map, ⊤}
use Rattle.std.specs.List.{range_with_len}
use Rattle.std.specs.BTreeMap.{is_at}
use Rattle.std.specs.Ordering.{nat_cmp}
use Rattle.sha2.specs.Sha256.{sha256}
use Rattle.su_tree.specs.Number.{number_bits}
use Rattle.su_hash_tree.specs.Edits.{value_at, with_value}
use Rattle.su_part_tree.specs.Part.{StandsFor, reaches}
use Rattle.su_node.specs.Field.{block}
use Rattle.su_node.specs.Digest.{block_item, block_count}
use Rattle.su_node.specs.InodeChange.{with_size}
use Rattle.su_part.specs.declared.blocks.PartBytes.{PartBytes}
use Rattle.su_part.specs.Bytes.{number_sort, loaded_block}

-- The block of that number, of which there is a digest, is these bytes now, and nothing else is
-- another one.
pub record IsReplaced (number : ℕ) (bytes : List ℕ) (b c : PartBytes) : Type 0 where
  pub size : c.size ≡ b.size
  pub digests : (m : List (ℕ × List ℕ)) → StandsFor number_sort b.digests m
      → value_at number_bits number m ≢ None → StandsFor number_sort c.digests
      (with_value number_bits number (sha256 (block_item bytes)) m)
  pub blocks : (n : ℕ)
      → loaded_block c n ≡ cond (is_at (nat_cmp number) n) (Some bytes) (loaded_block b n)

-- the digests of the first k blocks, f n being block n
abbrev pub digests_of : (ℕ → List ℕ) → ℕ → List (ℕ × List ℕ)
digests_of f k = map (λ n. (n, sha256 (block_item (f n)))) (range_with_len 0 k)

-- a block that is loaded has these bytes
abbrev pub IsThese : List ℕ → Option (List ℕ) → Type 0
IsThese bytes None = ⊤
IsThese bytes (Some x) = x ≡ bytes

-- The part has just the first k of the blocks f: their digests, and those that are loaded. What is
-- loaded behind them, as a place for a block, has no bytes.
pub record HasJust (f : ℕ → List ℕ) (k : ℕ) (b : PartBytes) : Type 0 where
  pub digests : StandsFor number_sort b.digests (digests_of f k)
  pub blocks : (n : ℕ) → n < k → IsThese (f n) (loaded_block b n)
  pub behind : (n : ℕ) → k ≤ n → IsThese [] (loaded_block b n)

-- of the block numbers before k all paths and blocks that p has loaded are loaded of q
pub record KeepsBelow (k : ℕ) (p q : PartBytes) : Type 0 where
  pub paths : (n : ℕ) → n < k → IsTrue (reaches number_bits n p.digests)
      → IsTrue (reaches number_bits n q.digests)
  pub loaded : (n : ℕ) → n < k → IsSome (loaded_block p n) → IsSome (loaded_block q n)

-- the blocks of a file of which those that stay after a cut to that size are cut already
abbrev pub half_cut : ℕ → List ℕ → ℕ → List ℕ
half_cut size bs n = cond (nat_lt n (block_count size)) (block n (with_size size bs)) (block n bs)
