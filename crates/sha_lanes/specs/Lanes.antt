-- Eight computations side by side, as the eight lanes of vectors: a word of FIPS 180-4 is a vector, which has that word of
-- each computation, and several words are a list of vectors.
use Rattle.std.specs.Prelude.{ℕ, ◌≡◌, ◌<◌, ◌*◌, List, ◌++◌, slice_index, map}
use Rattle.std.specs.Int.{w16, to_be_bytes}
use Rattle.sha2.specs.Sha256.{word_at, digest_bytes}

-- in each of the eight lanes
abbrev pub EachLane : (ℕ → Type 0) → Type 0
EachLane P = (l : ℕ) → l < 8 → P l

-- the words in lane l
abbrev pub lane : ℕ → List (List ℕ) → List ℕ
lane l words = map (λ word. slice_index word l) words

-- lane l holds the 16 words of a block (FIPS 180-4, Section 5.2.1)
abbrev pub HoldsBlock : List ℕ → ℕ → List (List ℕ) → Type 0
HoldsBlock block l words = (k : ℕ) → k < 16 → slice_index (lane l words) k ≡ word_at block (4 * k)

-- lane l holds where a chain stands: five words of I and the leaf, and the number of the chain
abbrev pub HoldsPlace : List ℕ → ℕ → List (List ℕ) → List ℕ → Type 0
HoldsPlace place l leaf index = place ≡ digest_bytes (lane l leaf) 5 ++ to_be_bytes w16 (slice_index index l)

-- lane l holds a string of 32 bytes, as eight words
abbrev pub HoldsValue : List ℕ → ℕ → List (List ℕ) → Type 0
HoldsValue value l words = value ≡ digest_bytes (lane l words) 8
