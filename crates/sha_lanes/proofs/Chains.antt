-- How chains grow.
use Rattle.std.proofs.Common.{◌≡◌, ℕ, suc, ◌+◌, min, ◌<◌, ◌≤◌, List, [], ◌∷◌, slice_index, refl, ap, arith}
use Rattle.sha2.specs.Sha256.{digest_bytes}
use Rattle.sha_lanes.specs.Chain.{chain, chain_step}

-- no step
pub chain_none : (place : List ℕ) (from left : ℕ) (value : List ℕ) → chain place from (min 0 left) value ≡ value
unfolding chain
chain_none place from left value =
    let none : min 0 left ≡ 0 = omega arith in
    rw none refl

-- one step more, where one is left
pub chain_goes : (place : List ℕ) (from turn left : ℕ) (value : List ℕ) → turn < left → chain place from (min (turn + 1) left) value ≡ chain_step place (from + turn) (chain place from (min turn left) value)
unfolding chain
chain_goes place from turn left value goes =
    let more : min (turn + 1) left ≡ suc turn = omega arith in
    let here : min turn left ≡ turn = omega arith in
    rw (more, here) refl

-- none more, where none is left
pub chain_rests : (place : List ℕ) (from turn left : ℕ) (value : List ℕ) → left ≤ turn → chain place from (min (turn + 1) left) value ≡ chain place from (min turn left) value
chain_rests place from turn left value rests = ap (λ n. chain place from n value) (omega arith)

-- the bytes of eight words
pub same_words : (x : List ℕ) (a b c d e f g h : ℕ) → a ≡ slice_index x 0 → b ≡ slice_index x 1 → c ≡ slice_index x 2 → d ≡ slice_index x 3 → e ≡ slice_index x 4 → f ≡ slice_index x 5 → g ≡ slice_index x 6 → h ≡ slice_index x 7 → digest_bytes x 8 ≡ digest_bytes (a ∷ b ∷ c ∷ d ∷ e ∷ f ∷ g ∷ h ∷ []) 8
unfolding digest_bytes
same_words x a b c d e f g h ea eb ec ed ee ef eg eh = rw (ea, eb, ec, ed, ee, ef, eg, eh) refl
