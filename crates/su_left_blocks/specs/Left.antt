-- Blocks that are left on a store: the bytes, as they are known, and what is kept of them.
use Rattle.std.specs.Prelude.{◌≡◌, ℕ, ◌<◌, List, [], ◌∷◌, Some, IsTrue, length, map}
use Rattle.std.specs.List.{range_with_len}
use Rattle.sha2.specs.Sha256.{sha256}
use Rattle.su_bytes.specs.declared.refusals.Refusal.{Refusal}
use Rattle.su_block.specs.declared.failures.Failures.{Failures}
use Rattle.su_block.specs.Failure.{is_failure}
use Rattle.su_node.specs.Field.{block}
use Rattle.su_node.specs.Digest.{block_item, block_count}
use Rattle.su_inverse.specs.declared.contents.KeptBlocks.{KeptBlocks}

-- the digests of the blocks of these bytes, in their order
abbrev pub digests_of : List ℕ → List (List ℕ)
digests_of bytes =
    map (λ n. sha256 (block_item (block n bytes))) (range_with_len 0 (block_count (length bytes)))

-- s is the item of one of the blocks of these bytes
abbrev pub IsItemOf : List ℕ → List ℕ → Type 0
IsItemOf bytes s =
    (n : ℕ) × (n < block_count (length bytes)) × (s ≡ block_item (block n bytes))

-- Where the refusal is a failure of the source, the newest of its failures was about the item of one
-- of the blocks of these bytes.
abbrev pub FailedAtBlock : List ℕ → Failures → Refusal → Type 0
FailedAtBlock bytes failures e = IsTrue (is_failure e)
    → (s : List ℕ) × IsItemOf bytes s × (failures.last ≡ Some (sha256 s))

-- what is kept of blocks that are left: their place and their run, and their digests
pub record IsLeftAs (kept : KeptBlocks) (digests : List (List ℕ)) (whole : KeptBlocks) : Type 0
  where
    pub place_is : kept.place ≡ whole.place
    pub run_is : kept.run ≡ whole.run
    pub digests_are : digests ≡ digests_of whole.bytes.items

-- the first of a log that keeps blocks alone, k where it has none
abbrev pub first_in : KeptBlocks → List (KeptBlocks × Unit {0}) → KeptBlocks
first_in k [] = k
first_in k (pair ∷ pairs) = pair.0
