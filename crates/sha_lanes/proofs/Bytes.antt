-- Bytes and the words that they spell.
use Rattle.std.proofs.Common.{◌≡◌, ℕ, zero, suc, ◌+◌, ◌*◌, ◌<◌, ◌≤◌, List, [], ◌∷◌, ◌++◌, length, get_or, take, slice_index, refl, ap, sym, ◌∙◌, arith}
use Rattle.std.specs.Int.{w32, to_be_bytes}
use Rattle.std.proofs.lemmas.List.{append_assoc, take_more, take_at, length-append}
use Rattle.std.proofs.lemmas.Nat.{be_bytes_4}
use Rattle.sha2.specs.Sha256.{digest_bytes, word_at}

-- no word
pub digest_none : (words : List ℕ) → digest_bytes words 0 ≡ []
unfolding digest_bytes
digest_none words = refl

-- one word more
pub digest_more : (words : List ℕ) (n : ℕ) → digest_bytes words (n + 1) ≡ digest_bytes words n ++ to_be_bytes w32 (slice_index words n)
unfolding digest_bytes
digest_more words n =
    let next : n + 1 ≡ suc n = omega arith in
    rw next refl

-- four bytes
four_bytes : (a b c d : ℕ) → a < 256 → b < 256 → c < 256 → d < 256 → (i : ℕ) → get_or (a ∷ b ∷ c ∷ d ∷ []) i 0 < 256
four_bytes a b c d pa pb pc pd zero = pa
four_bytes a b c d pa pb pc pd (suc zero) = pb
four_bytes a b c d pa pb pc pd (suc (suc zero)) = pc
four_bytes a b c d pa pb pc pd (suc (suc (suc zero))) = pd
four_bytes a b c d pa pb pc pd (suc (suc (suc (suc i)))) = omega arith

-- a word's bytes are those that it was read from
word_bytes : (b : List ℕ) (p : ℕ) → ((i : ℕ) → slice_index b i < 256) → to_be_bytes w32 (word_at b p) ≡ slice_index b p ∷ slice_index b (p + 1) ∷ slice_index b (p + 2) ∷ slice_index b (p + 3) ∷ []
word_bytes b p bytes =
    be_bytes_4 (slice_index b p ∷ slice_index b (p + 1) ∷ slice_index b (p + 2) ∷ slice_index b (p + 3) ∷ []) (word_at b p) refl
    (four_bytes _ _ _ _ (bytes p) (bytes (p + 1)) (bytes (p + 2)) (bytes (p + 3))) refl

one_more : (b : List ℕ) (p q : ℕ) → q ≡ p + 1 → p < length b → take q b ≡ take p b ++ slice_index b p ∷ []
one_more b p q next inside = ap (λ n. take n b) next ∙ take_more b p 0 inside

-- four bytes more
take_four : (b : List ℕ) (p : ℕ) → p + 4 ≤ length b → take (p + 4) b ≡ take p b ++ slice_index b p ∷ slice_index b (p + 1) ∷ slice_index b (p + 2) ∷ slice_index b (p + 3) ∷ []
take_four b p inside =
    one_more b (p + 3) (p + 4) (omega arith) (omega arith)
    ∙ ap (λ s. s ++ slice_index b (p + 3) ∷ []) (one_more b (p + 2) (p + 3) (omega arith) (omega arith))
    ∙ ap (λ s. s ++ slice_index b (p + 2) ∷ [] ++ slice_index b (p + 3) ∷ []) (one_more b (p + 1) (p + 2) (omega arith) (omega arith))
    ∙ ap (λ s. s ++ slice_index b (p + 1) ∷ [] ++ slice_index b (p + 2) ∷ [] ++ slice_index b (p + 3) ∷ []) (one_more b p (p + 1) refl (omega arith))
    ∙ simp append_assoc

-- the bytes of the words of a string are the string's
pub words_bytes : (b words : List ℕ) (n : ℕ) → ((k : ℕ) → k < n → slice_index words k ≡ word_at b (4 * k)) → 4 * n ≤ length b → ((i : ℕ) → slice_index b i < 256) → digest_bytes words n ≡ take (4 * n) b
unfolding digest_bytes
words_bytes b words zero reads inside bytes = refl
words_bytes b words (suc n) reads inside bytes =
    ap (λ s. s ++ to_be_bytes w32 (slice_index words n)) (words_bytes b words n (λ k low. reads k (omega arith)) (omega arith) bytes)
    ∙ ap (λ w. take (4 * n) b ++ to_be_bytes w32 w) (reads n (omega arith))
    ∙ ap (λ s. take (4 * n) b ++ s) (word_bytes b (4 * n) bytes)
    ∙ sym (take_four b (4 * n) (omega arith))
    ∙ ap (λ m. take m b) (omega arith)

-- a word's bytes written behind those of the words before it
pub put_more : (words bytes now : List ℕ) (n : ℕ) (behind : List ℕ) → length (take (4 * n) bytes) ≡ 4 * n → take (4 * n) bytes ≡ digest_bytes words n → now ≡ take (4 * n) bytes ++ (to_be_bytes w32 (slice_index words n) ++ behind) → take (4 * (n + 1)) now ≡ digest_bytes words (n + 1)
put_more words bytes now n behind size front is =
    let word : List ℕ = to_be_bytes w32 (slice_index words n) in
    let whole : length (take (4 * n) bytes ++ word) ≡ 4 * (n + 1) = length-append (take (4 * n) bytes) word ∙ omega (arith, size) in
    ap (take (4 * (n + 1))) (is ∙ sym (append_assoc (take (4 * n) bytes) word behind))
    ∙ take_at (take (4 * n) bytes ++ word) behind (4 * (n + 1)) whole
    ∙ ap (λ s. s ++ word) front ∙ sym (digest_more words n)
