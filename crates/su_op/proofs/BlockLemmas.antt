-- Blocks of a file's bytes after a write or a change of size.
use Rattle.std.proofs.Common.{◌≡◌, ℕ, ◌+◌, ◌-◌, ◌*◌, ◌/◌, ◌<◌, ◌≤◌, Bool, true, false, ◌&&◌, ◌⊎◌, inl, inr, ⊎_elim, nat_le, min, max, List, [], ◌∷◌, length, take, get_or, refl, sym, ap, ◌∙◌, arith}
use Rattle.std.proofs.lemmas.List.{ext_get_or}
use Rattle.std.proofs.lemmas.Bool.{leb-true, leb-false}
use Rattle.std.proofs.Math.Seq.{drop-nil}
use Rattle.su_node.specs.Field.{block, block_value}
use Rattle.su_node.specs.InodeChange.{with_size, with_bytes_at}
pub use Rattle.su_node.proofs.Public.{length-block, get_or-block, length-with_size, get_or-with_size, length-with_bytes_at, get_or-written_in, get_or-written_before, get_or-written_after}

pub block-nil : (n : ℕ) → block n [] ≡ []
unfolding block
block-nil n = ap (take 4096) (drop-nil (4096 * n))

pub block_value_same : (b c : List ℕ) → block_value b ≡ block_value c → b ≡ c
block_value_same [] [] e = refl
block_value_same [] (c ∷ cs) e = absurd cc
block_value_same (b ∷ bs) [] e = absurd cc
block_value_same (b ∷ bs) (c ∷ cs) e = cc

-- the same byte where the blocks are the same
pub byte_same : (n : ℕ) (bs cs : List ℕ) (i : ℕ) → block n bs ≡ block n cs → 4096 * n ≤ i → i < 4096 * n + 4096 → get_or bs i 0 ≡ get_or cs i 0
byte_same n bs cs i e low high =
    let at : 4096 * n + (i - 4096 * n) ≡ i = omega arith in
    ap (λ j. get_or bs j 0) (sym at) ∙ sym (get_or-block n bs (i - 4096 * n) (omega arith)) ∙ ap (λ b. get_or b (i - 4096 * n) 0) e
    ∙ get_or-block n cs (i - 4096 * n) (omega arith) ∙ ap (λ j. get_or cs j 0) at

pub block_same : (n : ℕ) (bs cs : List ℕ) → min 4096 (length bs - 4096 * n) ≡ min 4096 (length cs - 4096 * n)
    → ((i : ℕ) → 4096 * n ≤ i → i < 4096 * n + 4096 → i < length bs → get_or bs i 0 ≡ get_or cs i 0) → block n bs ≡ block n cs
block_same n bs cs long each =
    ext_get_or 0 (block n bs) (block n cs) (length-block n bs ∙ long ∙ sym (length-block n cs))
    (λ i lt.
    let l : length (block n bs) ≡ min 4096 (length bs - 4096 * n) = length-block n bs in
    get_or-block n bs i (omega arith) ∙ each (4096 * n + i) (omega arith) (omega arith) (omega arith) ∙ sym (get_or-block n cs i (omega arith)))

-- ---- a block of it

-- it follows from the size and the block before
pub block_written_alike : (n off : ℕ) (xs bs cs : List ℕ) → length bs ≡ length cs → block n bs ≡ block n cs → block n (with_bytes_at off xs bs) ≡ block n (with_bytes_at off xs cs)
block_written_alike n off xs bs cs long e = block_same n (with_bytes_at off xs bs) (with_bytes_at off xs cs) (omega (arith, a, b)) each
  where
    a : length (with_bytes_at off xs bs) ≡ max (off + length xs) (length bs)
    a = length-with_bytes_at off xs bs

    b : length (with_bytes_at off xs cs) ≡ max (off + length xs) (length cs)
    b = length-with_bytes_at off xs cs

    each : (i : ℕ) → 4096 * n ≤ i → i < 4096 * n + 4096 → i < length (with_bytes_at off xs bs) → get_or (with_bytes_at off xs bs) i 0 ≡ get_or (with_bytes_at off xs cs) i 0
    each i low high within = go (nat_le off i) refl (nat_le (off + length xs) i) refl
      where
        go : (p : Bool) → nat_le off i ≡ p → (q : Bool) → nat_le (off + length xs) i ≡ q → get_or (with_bytes_at off xs bs) i 0 ≡ get_or (with_bytes_at off xs cs) i 0
        go false is q is' = let h : i < off = leb-false off i is in
            get_or-written_before off xs bs i h ∙ byte_same n bs cs i e low high ∙ sym (get_or-written_before off xs cs i h)
        go true is false is' = let h : off ≤ i = leb-true off i is in let k : i < off + length xs = leb-false (off + length xs) i is' in
            get_or-written_in off xs bs i h k ∙ sym (get_or-written_in off xs cs i h k)
        go true is true is' = let k : off + length xs ≤ i = leb-true (off + length xs) i is' in
            get_or-written_after off xs bs i k ∙ byte_same n bs cs i e low high ∙ sym (get_or-written_after off xs cs i k)

pub block_resized_alike : (n t : ℕ) (bs cs : List ℕ) → block n bs ≡ block n cs → block n (with_size t bs) ≡ block n (with_size t cs)
block_resized_alike n t bs cs e =
    let a : length (with_size t bs) ≡ t = length-with_size t bs in
    let b : length (with_size t cs) ≡ t = length-with_size t cs in
    block_same n (with_size t bs) (with_size t cs) (omega arith)
    (λ i low high within.
    let lt : i < t = omega arith in
    get_or-with_size t bs i lt ∙ byte_same n bs cs i e low high ∙ sym (get_or-with_size t cs i lt))

-- a block outside those that are written stays
pub outside : (a b n : ℕ) → (nat_le a n && nat_le n b) ≡ false → (n < a) ⊎ (b < n)
outside a b n e = go (nat_le a n) refl (nat_le n b) refl e
  where
    go : (p : Bool) → nat_le a n ≡ p → (q : Bool) → nat_le n b ≡ q → (p && q) ≡ false → (n < a) ⊎ (b < n)
    go false is q is' e = inl (leb-false a n is)
    go true is false is' e = inr (leb-false n b is')
    go true is true is' e = absurd cc

pub block_written_within : (n off : ℕ) (xs bs : List ℕ) → 0 < length xs → off + length xs ≤ length bs → (n < off / 4096) ⊎ ((off + length xs - 1) / 4096 < n) → block n (with_bytes_at off xs bs) ≡ block n bs
block_written_within n off xs bs some fits out =
    let a : length (with_bytes_at off xs bs) ≡ max (off + length xs) (length bs) = length-with_bytes_at off xs bs in
    block_same n (with_bytes_at off xs bs) bs (omega arith)
    (λ i low high within. ⊎_elim (λ b. get_or-written_before off xs bs i (omega arith)) (λ b. get_or-written_after off xs bs i (omega arith)) out)

pub block_written_beyond : (n off : ℕ) (xs bs : List ℕ) → 0 < length xs → length bs < off + length xs → (n < min off (length bs) / 4096) ⊎ ((off + length xs - 1) / 4096 < n) → block n (with_bytes_at off xs bs) ≡ block n bs
block_written_beyond n off xs bs some past out =
    let a : length (with_bytes_at off xs bs) ≡ max (off + length xs) (length bs) = length-with_bytes_at off xs bs in
    block_same n (with_bytes_at off xs bs) bs (⊎_elim (λ b. omega arith) (λ b. omega arith) out)
    (λ i low high within. ⊎_elim (λ b. get_or-written_before off xs bs i (omega arith)) (λ b. absurd (omega arith)) out)

pub block_resized_outside : (n t : ℕ) (bs : List ℕ) → (n < min (length bs) t / 4096) ⊎ ((max (length bs) t - 1) / 4096 < n) → block n (with_size t bs) ≡ block n bs
block_resized_outside n t bs out =
    let a : length (with_size t bs) ≡ t = length-with_size t bs in
    block_same n (with_size t bs) bs (⊎_elim (λ b. omega arith) (λ b. omega arith) out)
    (λ i low high within. get_or-with_size t bs i (omega arith))

pub resized_same : (bs : List ℕ) → with_size (length bs) bs ≡ bs
resized_same bs = ext_get_or 0 (with_size (length bs) bs) bs (length-with_size (length bs) bs)
    (λ i lt. let a : length (with_size (length bs) bs) ≡ length bs = length-with_size (length bs) bs in get_or-with_size (length bs) bs i (omega arith))

-- bytes with the same size and blocks are the same
pub bytes_same : (bs cs : List ℕ) → length bs ≡ length cs → ((n : ℕ) → block n bs ≡ block n cs) → bs ≡ cs
bytes_same bs cs long each = ext_get_or 0 bs cs long (λ i lt. byte_same (i / 4096) bs cs i (each (i / 4096)) (omega arith) (omega arith))
