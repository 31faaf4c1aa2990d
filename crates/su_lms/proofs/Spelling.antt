-- Key files and public keys, spelled part by part.
use Rattle.std.proofs.Common.{◌≡◌, ℕ, ◌+◌, List, ◌++◌, length, take, drop, replicate, ap, ◌∙◌, arith}
use Rattle.std.proofs.lemmas.List.{append-nil, length-append}
use Rattle.su_lms.proofs.Chaining.{written}

-- four writes into 56 bytes
pub four_written : (a b id root one two three four : List ℕ) → length a ≡ 4 → length b ≡ 4 → length id ≡ 16 → length root ≡ 32 → one ≡ take 0 (replicate 56 0) ++ a ++ drop (0 + length a) (replicate 56 0) → two ≡ take 4 one ++ b ++ drop (4 + length b) one → three ≡ take 8 two ++ id ++ drop (8 + length id) two → four ≡ take 24 three ++ root ++ drop (24 + length root) three → four ≡ a ++ b ++ id ++ root
four_written a b id root one two three four a_size b_size id_size root_size first second third fourth =
    let base : List ℕ = replicate 56 0 in
    let b_on : length (a ++ b) ≡ 8 = omega (arith, length-append a b) in
    let id_on : length (a ++ b ++ id) ≡ 24 = omega (arith, length-append a b, length-append (a ++ b) id) in
    let has_a : one ≡ a ++ drop 4 base = first ∙ ap (λ n. a ++ drop (0 + n) base) a_size in
    let has_b : two ≡ a ++ b ++ drop 8 base = written a b base one two 4 4 has_a a_size b_size (second ∙ ap (λ n. take 4 one ++ b ++ drop (4 + n) one) b_size) in
    let has_id : three ≡ a ++ b ++ id ++ drop 24 base = written (a ++ b) id base two three 8 16 has_b b_on id_size (third ∙ ap (λ n. take 8 two ++ id ++ drop (8 + n) two) id_size) in
    written (a ++ b ++ id) root base three four 24 32 has_id id_on root_size (fourth ∙ ap (λ n. take 24 three ++ root ++ drop (24 + n) three) root_size)
    ∙ append-nil (a ++ b ++ id ++ root)

-- six writes into 64 bytes
pub six_written : (mark a b id seed next one two three four five six : List ℕ) → length mark ≡ 4 → length a ≡ 4 → length b ≡ 4 → length id ≡ 16 → length seed ≡ 32 → length next ≡ 4 → one ≡ take 0 (replicate 64 0) ++ mark ++ drop (0 + length mark) (replicate 64 0) → two ≡ take 4 one ++ a ++ drop (4 + length a) one → three ≡ take 8 two ++ b ++ drop (8 + length b) two → four ≡ take 12 three ++ id ++ drop (12 + length id) three → five ≡ take 28 four ++ seed ++ drop (28 + length seed) four → six ≡ take 60 five ++ next ++ drop (60 + length next) five → six ≡ mark ++ a ++ b ++ id ++ seed ++ next
six_written mark a b id seed next one two three four five six mark_size a_size b_size id_size seed_size next_size first second third fourth fifth sixth =
    let base : List ℕ = replicate 64 0 in
    let a_on : length (mark ++ a) ≡ 8 = omega (arith, length-append mark a) in
    let b_on : length (mark ++ a ++ b) ≡ 12 = omega (arith, length-append (mark ++ a) b) in
    let id_on : length (mark ++ a ++ b ++ id) ≡ 28 = omega (arith, length-append (mark ++ a ++ b) id) in
    let seed_on : length (mark ++ a ++ b ++ id ++ seed) ≡ 60 = omega (arith, length-append (mark ++ a ++ b ++ id) seed) in
    let has_mark : one ≡ mark ++ drop 4 base = first ∙ ap (λ n. mark ++ drop (0 + n) base) mark_size in
    let has_a : two ≡ mark ++ a ++ drop 8 base = written mark a base one two 4 4 has_mark mark_size a_size (second ∙ ap (λ n. take 4 one ++ a ++ drop (4 + n) one) a_size) in
    let has_b : three ≡ mark ++ a ++ b ++ drop 12 base = written (mark ++ a) b base two three 8 4 has_a a_on b_size (third ∙ ap (λ n. take 8 two ++ b ++ drop (8 + n) two) b_size) in
    let has_id : four ≡ mark ++ a ++ b ++ id ++ drop 28 base = written (mark ++ a ++ b) id base three four 12 16 has_b b_on id_size (fourth ∙ ap (λ n. take 12 three ++ id ++ drop (12 + n) three) id_size) in
    let has_seed : five ≡ mark ++ a ++ b ++ id ++ seed ++ drop 60 base = written (mark ++ a ++ b ++ id) seed base four five 28 32 has_id id_on seed_size (fifth ∙ ap (λ n. take 28 four ++ seed ++ drop (28 + n) four) seed_size) in
    written (mark ++ a ++ b ++ id ++ seed) next base five six 60 4 has_seed seed_on next_size (sixth ∙ ap (λ n. take 60 five ++ next ++ drop (60 + n) five) next_size)
    ∙ append-nil (mark ++ a ++ b ++ id ++ seed ++ next)
