-- The bytes of a file, its blocks, and both after a write or a change of size.
use Rattle.std.proofs.Common.{◌≡◌, ℕ, suc, ◌⊎◌, inl, inr, ◌+◌, ◌-◌, ◌*◌, ◌/◌, ◌<◌, ◌≤◌, Bool, true, false, cond, nat_eq, leb, min, max, List, [], ◌∷◌, ◌++◌, length, take, drop, get_or, set, replicate, refl, sym, ap, ◌∙◌, arith}
use Rattle.std.specs.List.{concat}
use Rattle.std.proofs.lemmas.List.{length-take, length-drop, length-append, length-replicate, length-set, get_or-take, get_or-drop, get_or_append_left, get_or-append_right, get_or-replicate, get_or_past, get_or-set_same, get_or-set_other, ext_get_or, take-append-drop, drop_min, take_min, set-append_left, take_at, length_push, get_or_push}
use Rattle.std.proofs.lemmas.Bool.{leb-true, leb-false}
use Rattle.std.proofs.Math.Seq.{drop-nil}
use Rattle.su_node.specs.Field.{block}
use Rattle.su_node.specs.InodeChange.{with_size, with_bytes_at}
use Rattle.su_node.specs.Stored.{AreBlocksOf, AreStored, AreZeroBlocks, with_padded}

-- ---- blocks

pub length-block : (n : ℕ) (bs : List ℕ) → length (block n bs) ≡ min 4096 (length bs - 4096 * n)
unfolding block
length-block n bs = length-take 4096 (drop (4096 * n) bs) ∙ ap (min 4096) (length-drop (4096 * n) bs)

pub get_or-block : (n : ℕ) (bs : List ℕ) (i : ℕ) → i < 4096 → get_or (block n bs) i 0 ≡ get_or bs (4096 * n + i) 0
unfolding block
get_or-block n bs i lt = get_or-take 4096 (drop (4096 * n) bs) i 0 lt ∙ get_or-drop (4096 * n) bs i 0

-- a list is a block where it has its length and bytes
pub block_is : (n : ℕ) (bs xs : List ℕ) → length xs ≡ min 4096 (length bs - 4096 * n)
    → ((i : ℕ) → i < length xs → get_or xs i 0 ≡ get_or bs (4096 * n + i) 0) → xs ≡ block n bs
block_is n bs xs long each =
    ext_get_or 0 xs (block n bs) (long ∙ sym (length-block n bs)) (λ i lt. each i lt ∙ sym (get_or-block n bs i (omega arith)))

block-nil : (n : ℕ) → block n [] ≡ []
unfolding block
block-nil n = ap (take 4096) (drop-nil (4096 * n))

block-later : (n : ℕ) (bs : List ℕ) → block (n + 1) bs ≡ block n (drop 4096 bs)
block-later n bs =
    let l : length (drop 4096 bs) ≡ length bs - 4096 = length-drop 4096 bs in
    block_is n (drop 4096 bs) (block (n + 1) bs) (length-block (n + 1) bs ∙ omega arith)
    (λ i lt.
    let within = length-block (n + 1) bs in
    let at : 4096 * (n + 1) + i ≡ 4096 + (4096 * n + i) = omega arith in
    get_or-block (n + 1) bs i (omega arith) ∙ ap (λ j. get_or bs j 0) at ∙ sym (get_or-drop 4096 bs (4096 * n + i) 0))

block-first : (bs : List ℕ) → block 0 bs ≡ take 4096 bs
unfolding block
block-first bs = refl

nil_from_length : (xs : List ℕ) → length xs ≡ 0 → xs ≡ []
nil_from_length [] e = refl
nil_from_length (x ∷ xs) e = absurd (omega arith)

-- there is a stored block where there are bytes
pub reaches : (blocks : List (List ℕ)) (bs : List ℕ) → AreBlocksOf blocks bs → (n : ℕ) → 4096 * n < length bs → n < length blocks
reaches blocks bs are n some = go (leb (length blocks) n) refl
  where
    go : (b : Bool) → leb (length blocks) n ≡ b → n < length blocks
    go false is = leb-false (length blocks) n is
    go true is =
        let past : get_or blocks n [] ≡ [] = get_or_past blocks n [] (leb-true (length blocks) n is) in
        let l = length-block n bs in
        let none : length (block n bs) ≡ 0 = ap length (sym (are.each n) ∙ past) in
        absurd (omega arith)

pub count_is : (blocks : List (List ℕ)) (bs : List ℕ) → AreBlocksOf blocks bs → length blocks ≡ (length bs + 4095) / 4096
count_is blocks bs are = go (leb (length blocks) ((length bs + 4095) / 4096)) refl (leb ((length bs + 4095) / 4096) (length blocks)) refl
  where
    go : (p : Bool) → leb (length blocks) ((length bs + 4095) / 4096) ≡ p → (q : Bool) → leb ((length bs + 4095) / 4096) (length blocks) ≡ q → length blocks ≡ (length bs + 4095) / 4096
    go true is true is' =
        let a = leb-true (length blocks) ((length bs + 4095) / 4096) is in
        let b = leb-true ((length bs + 4095) / 4096) (length blocks) is' in
        omega arith
    go false is q is' =
        let a : (length bs + 4095) / 4096 < length blocks = leb-false (length blocks) ((length bs + 4095) / 4096) is in
        let b = are.within ((length bs + 4095) / 4096) a in
        absurd (omega arith)
    go true is false is' =
        let a : length blocks < (length bs + 4095) / 4096 = leb-false ((length bs + 4095) / 4096) (length blocks) is' in
        let b = reaches blocks bs are (length blocks) (omega arith) in
        absurd (omega arith)

-- blocks joined are the bytes
pub concat_blocks : (blocks : List (List ℕ)) (bs : List ℕ) → AreBlocksOf blocks bs → concat blocks ≡ bs
concat_blocks [] bs are =
    let l = length-block 0 bs in
    let none : length (block 0 bs) ≡ 0 = ap length (sym (are.each 0)) in
    sym (nil_from_length bs (omega arith))
concat_blocks (b ∷ blocks) bs are =
    let rest : AreBlocksOf blocks (drop 4096 bs) = record {
      each = λ n. sym (ap (λ m. get_or (b ∷ blocks) m []) (add_one n)) ∙ are.each (n + 1) ∙ block-later n bs;
      within = λ n lt. let w = are.within (n + 1) (omega arith) in let l = length-drop 4096 bs in omega arith;
    } in
    (λ i. (are.each 0 ∙ block-first bs) i ++ concat_blocks blocks (drop 4096 bs) rest i) ∙ take-append-drop 4096 bs
  where
    add_one : (n : ℕ) → n + 1 ≡ suc n
    add_one n = omega arith

pub stored : (blocks : List (List ℕ)) (bs : List ℕ) (size : ℕ) → AreBlocksOf blocks bs → size ≡ length bs → AreStored blocks size
stored blocks bs size are e =
    let joined = sym (concat_blocks blocks bs are) in
    record {
      blocks_of = record {
        each = λ n. are.each n ∙ ap (block n) joined;
        within = λ n lt. let w = are.within n lt in let l = ap length joined in omega arith;
      };
      size_of = e ∙ ap length joined;
    }

-- ---- another size

pub length-with_size : (t : ℕ) (bs : List ℕ) → length (with_size t bs) ≡ t
unfolding with_size
length-with_size t bs =
    let a = length-append (take t bs) (replicate (t - length bs) 0) in
    let b = length-take t bs in
    let c = length-replicate {A = ℕ} (t - length bs) 0 in
    omega (arith, a, b, c)

pub get_or-with_size : (t : ℕ) (bs : List ℕ) (i : ℕ) → i < t → get_or (with_size t bs) i 0 ≡ get_or bs i 0
unfolding with_size
get_or-with_size t bs i lt = go (leb (length (take t bs)) i) refl
  where
    l : length (take t bs) ≡ min t (length bs)
    l = length-take t bs

    go : (b : Bool) → leb (length (take t bs)) i ≡ b → get_or (take t bs ++ replicate (t - length bs) 0) i 0 ≡ get_or bs i 0
    go false is =
        let h : i < length (take t bs) = leb-false (length (take t bs)) i is in
        get_or_append_left (take t bs) (replicate (t - length bs) 0) 0 i h ∙ get_or-take t bs i 0 lt
    go true is =
        let h : length (take t bs) ≤ i = leb-true (length (take t bs)) i is in
        get_or-append_right (take t bs) (replicate (t - length bs) 0) (length bs) i 0 (omega (arith, l)) (omega (arith, l))
        ∙ get_or-replicate (t - length bs) (i - length bs) 0 0 (omega (arith, l))
        ∙ sym (get_or_past bs i 0 (omega (arith, l)))

-- a list is the bytes at a size where it has that length and those bytes
pub resized_is : (t : ℕ) (bs xs : List ℕ) → length xs ≡ t → ((i : ℕ) → i < t → get_or xs i 0 ≡ get_or bs i 0) → xs ≡ with_size t bs
resized_is t bs xs long each =
    ext_get_or 0 xs (with_size t bs) (long ∙ sym (length-with_size t bs))
    (λ i lt. let at : i < t = omega (arith, long) in each i at ∙ sym (get_or-with_size t bs i at))

pub resized_same : (t : ℕ) (bs : List ℕ) → length bs ≡ t → bs ≡ with_size t bs
resized_same t bs long = resized_is t bs bs long (λ i lt. refl)

pub resized_cut : (t : ℕ) (bs : List ℕ) → t ≤ length bs → take t bs ≡ with_size t bs
resized_cut t bs le =
    let l = length-take t bs in
    resized_is t bs (take t bs) (omega (arith, l)) (λ i lt. get_or-take t bs i 0 lt)

block-with_size : (n t : ℕ) (bs : List ℕ) → with_size (min 4096 (t - 4096 * n)) (block n bs) ≡ block n (with_size t bs)
block-with_size n t bs =
    let m = min 4096 (t - 4096 * n) in
    let l : length (with_size m (block n bs)) ≡ m = length-with_size m (block n bs) in
    let k : length (with_size t bs) ≡ t = length-with_size t bs in
    block_is n (with_size t bs) (with_size m (block n bs)) (l ∙ omega (arith, k))
    (λ i lt.
    get_or-with_size m (block n bs) i (omega (arith, l)) ∙ get_or-block n bs i (omega (arith, l))
    ∙ sym (get_or-with_size t bs (4096 * n + i) (omega (arith, l))))

-- each block with its new length
pub resized_blocks : (blocks new : List (List ℕ)) (bs : List ℕ) (t : ℕ) → AreBlocksOf blocks bs → length new ≡ (t + 4095) / 4096
    → ((n : ℕ) → n < length new → get_or new n [] ≡ with_size (min 4096 (t - 4096 * n)) (get_or blocks n [])) → AreBlocksOf new (with_size t bs)
resized_blocks blocks new bs t are long each = record {
  each = λ n. go n (leb (length new) n) refl;
  within = λ n lt. let l = length-with_size t bs in omega (arith, long);
}
  where
    go : (n : ℕ) (b : Bool) → leb (length new) n ≡ b → get_or new n [] ≡ block n (with_size t bs)
    go n false is = each n (leb-false (length new) n is) ∙ ap (with_size (min 4096 (t - 4096 * n))) (are.each n) ∙ block-with_size n t bs
    go n true is =
        let past : length new ≤ n = leb-true (length new) n is in
        let l = length-block n (with_size t bs) in
        let k = length-with_size t bs in
        get_or_past new n [] past ∙ sym (nil_from_length (block n (with_size t bs)) (omega (arith, l, k, long)))

-- the first blocks, with the last of them cut
pub cut_blocks : (blocks new : List (List ℕ)) (bs : List ℕ) (t : ℕ) → AreBlocksOf blocks bs → t ≤ length bs → length new ≡ (t + 4095) / 4096
    → ((n : ℕ) → n + 1 < length new → get_or new n [] ≡ get_or blocks n [])
    → ((n : ℕ) → n + 1 ≡ length new → get_or new n [] ≡ take (t - 4096 * n) (get_or blocks n []))
    → AreBlocksOf new (with_size t bs)
cut_blocks blocks new bs t are le long same last = resized_blocks blocks new bs t are long (λ n lt. go n lt (nat_eq (n + 1) (length new)) refl)
  where
    size : (n : ℕ) → length (get_or blocks n []) ≡ min 4096 (length bs - 4096 * n)
    size n = ap length (are.each n) ∙ length-block n bs

    go : (n : ℕ) → n < length new → (b : Bool) → nat_eq (n + 1) (length new) ≡ b → get_or new n [] ≡ with_size (min 4096 (t - 4096 * n)) (get_or blocks n [])
    go n lt true is =
        let at : n + 1 ≡ length new = grind (arith, is) in
        let s = size n in
        let m : t - 4096 * n ≡ min 4096 (t - 4096 * n) = omega (arith, long) in
        last n at ∙ ap (λ k. take k (get_or blocks n [])) m ∙ resized_cut (min 4096 (t - 4096 * n)) (get_or blocks n []) (omega (arith, s))
    go n lt false is =
        let at : n + 1 < length new = grind (arith, is, lt) in
        let s = size n in
        same n at ∙ resized_same (min 4096 (t - 4096 * n)) (get_or blocks n []) (omega (arith, s, long))

-- the last block filled with zeros, and blocks of zeros behind it
pub grown_blocks : (blocks new added : List (List ℕ)) (bs : List ℕ) (t : ℕ) → AreBlocksOf blocks bs → length bs ≤ t
    → length added ≡ (t + 4095) / 4096 - length blocks → AreZeroBlocks added (length blocks) t
    → new ≡ set blocks (length blocks - 1) (with_size (min 4096 (t - 4096 * (length blocks - 1))) (get_or blocks (length blocks - 1) [])) ++ added
    → AreBlocksOf new (with_size t bs)
grown_blocks blocks new added bs t are le count zeros is = resized_blocks blocks new bs t are long (λ n lt. ap (λ xs. get_or xs n []) is ∙ go n lt (leb (length blocks) n) refl (nat_eq (n + 1) (length blocks)) refl)
  where
    filled : List (List ℕ)
    filled = set blocks (length blocks - 1) (with_size (min 4096 (t - 4096 * (length blocks - 1))) (get_or blocks (length blocks - 1) []))

    filled_long : length filled ≡ length blocks
    filled_long = length-set blocks (length blocks - 1) (with_size (min 4096 (t - 4096 * (length blocks - 1))) (get_or blocks (length blocks - 1) []))

    long : length new ≡ (t + 4095) / 4096
    long =
        let a = count_is blocks bs are in
        ap length is ∙ length-append filled added ∙ omega (arith, filled_long, count, a)

    size : (n : ℕ) → length (get_or blocks n []) ≡ min 4096 (length bs - 4096 * n)
    size n = ap length (are.each n) ∙ length-block n bs

    go : (n : ℕ) → n < length new → (p : Bool) → leb (length blocks) n ≡ p → (q : Bool) → nat_eq (n + 1) (length blocks) ≡ q
        → get_or (filled ++ added) n [] ≡ with_size (min 4096 (t - 4096 * n)) (get_or blocks n [])
    go n lt true is' q is'' =
        let past : length blocks ≤ n = leb-true (length blocks) n is' in
        let at : length blocks + (n - length blocks) ≡ n = omega arith in
        get_or-append_right filled added (length blocks) n [] filled_long past
        ∙ zeros (n - length blocks) (omega (arith, long, count))
        ∙ ap (λ m. with_size (min 4096 (t - 4096 * m)) []) at
        ∙ ap (with_size (min 4096 (t - 4096 * n))) (sym (get_or_past blocks n [] past))
    go n lt false is' true is'' =
        let below : n < length blocks = leb-false (length blocks) n is' in
        let at : length blocks - 1 ≡ n = grind (arith, is'') in
        get_or_append_left filled added [] n (omega (arith, filled_long))
        ∙ ap (λ m. get_or (set blocks m (with_size (min 4096 (t - 4096 * m)) (get_or blocks m []))) n []) at
        ∙ get_or-set_same blocks n (with_size (min 4096 (t - 4096 * n)) (get_or blocks n [])) [] below
    go n lt false is' false is'' =
        let below : n < length blocks = leb-false (length blocks) n is' in
        let before : n + 1 < length blocks = grind (arith, is'', below) in
        let more = are.within (n + 1) before in
        let s = size n in
        get_or_append_left filled added [] n (omega (arith, filled_long))
        ∙ get_or-set_other blocks (length blocks - 1) n (with_size (min 4096 (t - 4096 * (length blocks - 1))) (get_or blocks (length blocks - 1) [])) [] (λ e. omega (arith, e))
        ∙ resized_same (min 4096 (t - 4096 * n)) (get_or blocks n []) (omega (arith, s))

-- the last of the first blocks filled, with others behind it
pub padded_before : (t : ℕ) (blocks added : List (List ℕ)) → with_padded (length blocks) t (blocks ++ added)
    ≡ set blocks (length blocks - 1) (with_size (min 4096 (t - 4096 * (length blocks - 1))) (get_or blocks (length blocks - 1) [])) ++ added
padded_before t [] added = refl
padded_before t (b ∷ blocks) added =
    let n = length (b ∷ blocks) - 1 in
    let there : n < length (b ∷ blocks) = omega arith in
    let some : nat_eq (length (b ∷ blocks)) 0 ≡ false = grind arith in
    ap (λ none. cond none ((b ∷ blocks) ++ added) (set ((b ∷ blocks) ++ added) n (with_size (min 4096 (t - 4096 * n)) (get_or ((b ∷ blocks) ++ added) n [])))) some
    ∙ ap (λ x. set ((b ∷ blocks) ++ added) n (with_size (min 4096 (t - 4096 * n)) x)) (get_or_append_left (b ∷ blocks) added [] n there)
    ∙ set-append_left (b ∷ blocks) added n (with_size (min 4096 (t - 4096 * n)) (get_or (b ∷ blocks) n [])) there

-- ---- bytes written

pub length-with_bytes_at : (off : ℕ) (xs bs : List ℕ) → length (with_bytes_at off xs bs) ≡ max (off + length xs) (length bs)
unfolding with_bytes_at
length-with_bytes_at off xs bs =
    let a = length-append (with_size off bs) (xs ++ drop (off + length xs) bs) in
    let b = length-append xs (drop (off + length xs) bs) in
    let c = length-drop (off + length xs) bs in
    let d = length-with_size off bs in
    omega (arith, a, b, c, d)

pub get_or-written_in : (off : ℕ) (xs bs : List ℕ) (i : ℕ) → off ≤ i → i < off + length xs → get_or (with_bytes_at off xs bs) i 0 ≡ get_or xs (i - off) 0
unfolding with_bytes_at
get_or-written_in off xs bs i low high =
    get_or-append_right (with_size off bs) (xs ++ drop (off + length xs) bs) off i 0 (length-with_size off bs) low
    ∙ get_or_append_left xs (drop (off + length xs) bs) 0 (i - off) (omega arith)

pub get_or-written_before : (off : ℕ) (xs bs : List ℕ) (i : ℕ) → i < off → get_or (with_bytes_at off xs bs) i 0 ≡ get_or bs i 0
unfolding with_bytes_at
get_or-written_before off xs bs i lt =
    let l : length (with_size off bs) ≡ off = length-with_size off bs in
    get_or_append_left (with_size off bs) (xs ++ drop (off + length xs) bs) 0 i (omega arith) ∙ get_or-with_size off bs i lt

pub get_or-written_after : (off : ℕ) (xs bs : List ℕ) (i : ℕ) → off + length xs ≤ i → get_or (with_bytes_at off xs bs) i 0 ≡ get_or bs i 0
unfolding with_bytes_at
get_or-written_after off xs bs i le =
    let at : off + length xs + (i - off - length xs) ≡ i = omega arith in
    get_or-append_right (with_size off bs) (xs ++ drop (off + length xs) bs) off i 0 (length-with_size off bs) (omega arith)
    ∙ get_or-append_right xs (drop (off + length xs) bs) (length xs) (i - off) 0 refl (omega arith)
    ∙ get_or-drop (off + length xs) bs (i - off - length xs) 0 ∙ ap (λ j. get_or bs j 0) at

-- a list is the bytes after a write where it has that length and those bytes
pub written_is : (off : ℕ) (xs bs ys : List ℕ) → length ys ≡ max (off + length xs) (length bs)
    → ((i : ℕ) → i < off → get_or ys i 0 ≡ get_or bs i 0)
    → ((i : ℕ) → off ≤ i → i < off + length xs → get_or ys i 0 ≡ get_or xs (i - off) 0)
    → ((i : ℕ) → off + length xs ≤ i → get_or ys i 0 ≡ get_or bs i 0)
    → ys ≡ with_bytes_at off xs bs
written_is off xs bs ys long before in_ after = ext_get_or 0 ys (with_bytes_at off xs bs) (long ∙ sym (length-with_bytes_at off xs bs)) (λ i lt. go i (leb off i) refl (leb (off + length xs) i) refl)
  where
    go : (i : ℕ) (p : Bool) → leb off i ≡ p → (q : Bool) → leb (off + length xs) i ≡ q → get_or ys i 0 ≡ get_or (with_bytes_at off xs bs) i 0
    go i false is q is' = let h : i < off = leb-false off i is in before i h ∙ sym (get_or-written_before off xs bs i h)
    go i true is false is' =
        let h : off ≤ i = leb-true off i is in
        let k : i < off + length xs = leb-false (off + length xs) i is' in
        in_ i h k ∙ sym (get_or-written_in off xs bs i h k)
    go i true is true is' = let k : off + length xs ≤ i = leb-true (off + length xs) i is' in after i k ∙ sym (get_or-written_after off xs bs i k)

-- nothing written
pub written_nothing : (off : ℕ) (bs : List ℕ) → off ≤ length bs → bs ≡ with_bytes_at off [] bs
written_nothing off bs le = written_is off [] bs bs (omega arith) (λ i lt. refl) (λ i low high. absurd (omega arith)) (λ i high. refl)

-- what is written into the file that has grown for it
pub written_grown : (off : ℕ) (xs bs : List ℕ) → length bs < off + length xs → with_bytes_at off xs (with_size (off + length xs) bs) ≡ with_bytes_at off xs bs
written_grown off xs bs lt =
    let t = off + length xs in
    let r : length (with_size t bs) ≡ t = length-with_size t bs in
    let l = length-with_bytes_at off xs (with_size t bs) in
    written_is off xs bs (with_bytes_at off xs (with_size t bs)) (omega (arith, l, r))
    (λ i h. get_or-written_before off xs (with_size t bs) i h ∙ get_or-with_size t bs i (omega arith))
    (λ i low high. get_or-written_in off xs (with_size t bs) i low high)
    (λ i high. get_or-written_after off xs (with_size t bs) i high ∙ get_or_past (with_size t bs) i 0 (omega (arith, r)) ∙ sym (get_or_past bs i 0 (omega arith)))

-- what a slice holds after a part of it was copied over
pub copied_over : (xs bs rest : List ℕ) (off k n : ℕ) → off + length xs ≤ length bs → k ≡ length xs → n ≡ length bs
    → take n ((take off bs ++ (xs ++ drop k (drop off bs))) ++ rest) ≡ with_bytes_at off xs bs
copied_over xs bs rest off k n fits k_is n_is = take_at (take off bs ++ (xs ++ drop k (drop off bs))) rest n (long ∙ sym n_is)
    ∙ written_is off xs bs (take off bs ++ (xs ++ drop k (drop off bs))) (long ∙ omega arith) before in_ after
  where
    a : length (take off bs) ≡ off
    a = length-take off bs ∙ omega arith

    behind : length (drop k (drop off bs)) ≡ length bs - off - k
    behind = length-drop k (drop off bs) ∙ ap (λ m. m - k) (length-drop off bs)

    long : length (take off bs ++ (xs ++ drop k (drop off bs))) ≡ length bs
    long = length-append (take off bs) (xs ++ drop k (drop off bs)) ∙ (λ i. a i + length-append xs (drop k (drop off bs)) i) ∙ omega (arith, behind)

    before : (i : ℕ) → i < off → get_or (take off bs ++ (xs ++ drop k (drop off bs))) i 0 ≡ get_or bs i 0
    before i lt = get_or_append_left (take off bs) (xs ++ drop k (drop off bs)) 0 i (omega (arith, a)) ∙ get_or-take off bs i 0 lt

    in_ : (i : ℕ) → off ≤ i → i < off + length xs → get_or (take off bs ++ (xs ++ drop k (drop off bs))) i 0 ≡ get_or xs (i - off) 0
    in_ i low high = get_or-append_right (take off bs) (xs ++ drop k (drop off bs)) off i 0 a low ∙ get_or_append_left xs (drop k (drop off bs)) 0 (i - off) (omega arith)

    after : (i : ℕ) → off + length xs ≤ i → get_or (take off bs ++ (xs ++ drop k (drop off bs))) i 0 ≡ get_or bs i 0
    after i high =
        let at : off + (k + (i - off - length xs)) ≡ i = omega arith in
        get_or-append_right (take off bs) (xs ++ drop k (drop off bs)) off i 0 a (omega arith)
        ∙ get_or-append_right xs (drop k (drop off bs)) (length xs) (i - off) 0 refl (omega arith)
        ∙ get_or-drop k (drop off bs) (i - off - length xs) 0 ∙ get_or-drop off bs (k + (i - off - length xs)) 0 ∙ ap (λ j. get_or bs j 0) at

-- the blocks after one more of them has its bytes
module _ (bs xs : List ℕ) (off : ℕ) (fits : off + length xs ≤ length bs) where
  abbrev so_far : ℕ → List ℕ
  so_far k = with_bytes_at off (take k xs) bs

  length-so_far : (k : ℕ) → length (so_far k) ≡ length bs
  length-so_far k = let l = length-take k xs in length-with_bytes_at off (take k xs) bs ∙ omega (arith, l)

  before : (k i : ℕ) → i < off → get_or (so_far k) i 0 ≡ get_or bs i 0
  before k i lt = get_or-written_before off (take k xs) bs i lt

  inside : (k i : ℕ) → k ≤ length xs → off ≤ i → i < off + k → get_or (so_far k) i 0 ≡ get_or xs (i - off) 0
  inside k i le low high =
      let l = length-take k xs in
      get_or-written_in off (take k xs) bs i low (omega (arith, l)) ∙ get_or-take k xs (i - off) 0 (omega arith)

  after : (k i : ℕ) → k ≤ length xs → off + k ≤ i → get_or (so_far k) i 0 ≡ get_or bs i 0
  after k i le high = let l = length-take k xs in get_or-written_after off (take k xs) bs i (omega (arith, l))

  -- a byte that is written before or afterwards, or not at all
  same : (k m i : ℕ) → k ≤ m → m ≤ length xs → (i < off + k) ⊎ (off + m ≤ i) → get_or (so_far k) i 0 ≡ get_or (so_far m) i 0
  same k m i le within (inr high) = after k i (omega arith) (omega arith) ∙ sym (after m i within high)
  same k m i le within (inl low) = go (leb off i) refl
    where
      go : (b : Bool) → leb off i ≡ b → get_or (so_far k) i 0 ≡ get_or (so_far m) i 0
      go false is = let h : i < off = leb-false off i is in before k i h ∙ sym (before m i h)
      go true is = let h : off ≤ i = leb-true off i is in inside k i (omega arith) h low ∙ sym (inside m i within h (omega arith))

  module _ (n k m first last : ℕ) (k_is : k ≡ min (length xs) (4096 * n - off)) (m_is : m ≡ min (length xs) (4096 * (n + 1) - off))
      (first_is : first ≡ max off (4096 * n)) (last_is : last ≡ min (off + length xs) (4096 * (n + 1)))
      (reached : off < 4096 * (n + 1)) (within : 4096 * n < off + length xs) where
    abbrev piece : List ℕ
    piece = take (last - first) (drop (first - off) xs)

    piece_long : length piece ≡ last - first
    piece_long = let l = length-drop (first - off) xs in length-take (last - first) (drop (first - off) xs) ∙ omega (arith, l, fits, first_is, last_is)

    in_piece : (j : ℕ) → j < last - first → get_or piece j 0 ≡ get_or xs (first - off + j) 0
    in_piece j lt = get_or-take (last - first) (drop (first - off) xs) j 0 lt ∙ get_or-drop (first - off) xs j 0

    block_long : length (block n (so_far k)) ≡ min 4096 (length bs - 4096 * n)
    block_long = length-block n (so_far k) ∙ ap (λ l. min 4096 (l - 4096 * n)) (length-so_far k)

    -- the block of that number
    here : with_bytes_at (first - 4096 * n) piece (block n (so_far k)) ≡ block n (so_far m)
    here = block_is n (so_far m) (with_bytes_at (first - 4096 * n) piece (block n (so_far k))) long (λ i lt. go i (omega (arith, lt, long, length-so_far m)) (leb first (4096 * n + i)) refl (leb (off + length xs) (4096 * n + i)) refl)
      where
        long : length (with_bytes_at (first - 4096 * n) piece (block n (so_far k))) ≡ min 4096 (length (so_far m) - 4096 * n)
        long = let l = length-so_far m in length-with_bytes_at (first - 4096 * n) piece (block n (so_far k)) ∙ omega (arith, l, piece_long, block_long, fits, first_is, last_is, reached, within)

        go : (i : ℕ) → i < 4096 → (p : Bool) → leb first (4096 * n + i) ≡ p → (q : Bool) → leb (off + length xs) (4096 * n + i) ≡ q
            → get_or (with_bytes_at (first - 4096 * n) piece (block n (so_far k))) i 0 ≡ get_or (so_far m) (4096 * n + i) 0
        go i lt false is q is' =
            let h : 4096 * n + i < first = leb-false first (4096 * n + i) is in
            get_or-written_before (first - 4096 * n) piece (block n (so_far k)) i (omega (arith, first_is))
            ∙ get_or-block n (so_far k) i lt ∙ before k (4096 * n + i) (omega (arith, first_is)) ∙ sym (before m (4096 * n + i) (omega (arith, first_is)))
        go i lt true is true is' =
            let h : off + length xs ≤ 4096 * n + i = leb-true (off + length xs) (4096 * n + i) is' in
            get_or-written_after (first - 4096 * n) piece (block n (so_far k)) i (omega (arith, piece_long, first_is, last_is, within))
            ∙ get_or-block n (so_far k) i lt ∙ same k m (4096 * n + i) (omega (arith, k_is, m_is)) (omega (arith, m_is)) (inr (omega (arith, m_is)))
        go i lt true is false is' =
            let h : first ≤ 4096 * n + i = leb-true first (4096 * n + i) is in
            let g : 4096 * n + i < off + length xs = leb-false (off + length xs) (4096 * n + i) is' in
            let at : first - off + (i - (first - 4096 * n)) ≡ 4096 * n + i - off = omega (arith, first_is) in
            get_or-written_in (first - 4096 * n) piece (block n (so_far k)) i (omega (arith, first_is)) (omega (arith, piece_long, first_is, last_is))
            ∙ in_piece (i - (first - 4096 * n)) (omega (arith, first_is, last_is)) ∙ ap (λ j. get_or xs j 0) at
            ∙ sym (inside m (4096 * n + i) (omega (arith, m_is)) (omega (arith, first_is)) (omega (arith, m_is)))

    -- another block
    elsewhere : (j : ℕ) → (j < n) ⊎ (n < j) → block j (so_far k) ≡ block j (so_far m)
    elsewhere j apart = block_is j (so_far m) (block j (so_far k)) (length-block j (so_far k) ∙ ap (λ l. min 4096 (l - 4096 * j)) (length-so_far k ∙ sym (length-so_far m)))
        (λ i lt.
        let l = length-block j (so_far k) in
        let small : i < 4096 = omega (arith, l, lt) in
        get_or-block j (so_far k) i small
        ∙ same k m (4096 * j + i) (omega (arith, k_is, m_is)) (omega (arith, m_is)) (place i small apart))
      where
        place : (i : ℕ) → i < 4096 → (j < n) ⊎ (n < j) → (4096 * j + i < off + k) ⊎ (off + m ≤ 4096 * j + i)
        place i small (inr more) = inr (omega (arith, m_is))
        place i small (inl less) = go (leb (off + length xs) (4096 * j + i)) refl
          where
            go : (b : Bool) → leb (off + length xs) (4096 * j + i) ≡ b → (4096 * j + i < off + k) ⊎ (off + m ≤ 4096 * j + i)
            go true is = let h = leb-true (off + length xs) (4096 * j + i) is in inr (omega (arith, m_is))
            go false is = let h = leb-false (off + length xs) (4096 * j + i) is in inl (omega (arith, k_is))

    pub written_blocks : (blocks : List (List ℕ)) → AreBlocksOf blocks (so_far k) → AreBlocksOf (set blocks n (with_bytes_at (first - 4096 * n) piece (get_or blocks n []))) (so_far m)
    written_blocks blocks are = record {
      each = λ j. go j (leb n j) refl (leb j n) refl;
      within = λ j lt. let w = are.within j (omega (arith, length-set blocks n new)) in omega (arith, w, length-so_far k, length-so_far m);
    }
      where
        new : List ℕ
        new = with_bytes_at (first - 4096 * n) piece (get_or blocks n [])

        there : n < length blocks
        there = reaches blocks (so_far k) are n (omega (arith, length-so_far k, fits, within))

        go : (j : ℕ) (p : Bool) → leb n j ≡ p → (q : Bool) → leb j n ≡ q → get_or (set blocks n new) j [] ≡ block j (so_far m)
        go j true is true is' =
            let a = leb-true n j is in
            let b = leb-true j n is' in
            let at : j ≡ n = omega arith in
            ap (λ i. get_or (set blocks n new) i []) at ∙ get_or-set_same blocks n new [] there
            ∙ ap (with_bytes_at (first - 4096 * n) piece) (are.each n) ∙ here ∙ ap (λ i. block i (so_far m)) (sym at)
        go j false is q is' =
            let a = leb-false n j is in
            get_or-set_other blocks n j new [] (λ e. omega (arith, e)) ∙ are.each j ∙ elsewhere j (inl a)
        go j true is false is' =
            let a = leb-false j n is' in
            get_or-set_other blocks n j new [] (λ e. omega (arith, e)) ∙ are.each j ∙ elsewhere j (inr a)

-- ---- no bytes

pub no_blocks : (blocks : List (List ℕ)) → blocks ≡ [] → AreStored blocks 0
no_blocks blocks none = stored blocks [] 0 (record {
  each = λ n. ap (λ xs. get_or xs n []) none ∙ sym (block-nil n);
  within = λ n lt. absurd (omega (arith, lt, ap length none));
}) refl

-- ---- blocks of zeros

pub zeros_more : (blocks more : List (List ℕ)) (zeros : List ℕ) (first t n : ℕ) → AreZeroBlocks blocks first t → first + length blocks ≡ n
    → zeros ≡ with_size (min 4096 (t - 4096 * n)) [] → more ≡ blocks ++ zeros ∷ [] → AreZeroBlocks more first t
zeros_more blocks more zeros first t n are at is more_is k lt = ap (λ xs. get_or xs k []) more_is ∙ go (leb (length blocks) k) refl
  where
    go : (b : Bool) → leb (length blocks) k ≡ b → get_or (blocks ++ zeros ∷ []) k [] ≡ with_size (min 4096 (t - 4096 * (first + k))) []
    go false e = let h : k < length blocks = leb-false (length blocks) k e in get_or_append_left blocks (zeros ∷ []) [] k h ∙ are k h
    go true e =
        let h : length blocks ≤ k = leb-true (length blocks) k e in
        let l = ap length more_is ∙ length_push blocks zeros in
        let same : k ≡ length blocks = omega (arith, lt, l) in
        let there : n ≡ first + k = omega (arith, at) in
        ap (λ j. get_or (blocks ++ zeros ∷ []) j []) same ∙ get_or_push blocks zeros [] (length blocks) refl
        ∙ is ∙ ap (λ j. with_size (min 4096 (t - 4096 * j)) []) there

-- ---- bytes read

-- what is read before a block, and what is read of it
read_on : (bs blk : List ℕ) (start n first end_ a b : ℕ) → blk ≡ block n bs → 4096 * n ≤ length bs → a ≡ 4096 * n - start → first ≡ start - 4096 * n
    → first ≤ end_ → end_ ≤ length blk → b ≡ 4096 * n + end_ - start
    → take a (drop start bs) ++ take (end_ - first) (drop first blk) ≡ take b (drop start bs)
read_on bs blk start n first end_ a b blk_is there a_is first_is low high b_is =
    ext_get_or 0 (was ++ more) (take b (drop start bs)) (total ∙ omega (arith, sum) ∙ sym b_long) each
  where
    size : length blk ≡ min 4096 (length bs - 4096 * n)
    size = ap length blk_is ∙ length-block n bs

    sum : b ≡ a + (end_ - first)
    sum = omega (arith, a_is, first_is, b_is, low)

    reach : 4096 * n + end_ ≤ length bs
    reach = omega (arith, size, there, high)

    small_end : end_ ≤ 4096
    small_end = omega (arith, size, high)

    was : List ℕ
    was = take a (drop start bs)

    more : List ℕ
    more = take (end_ - first) (drop first blk)

    b_long : length (take b (drop start bs)) ≡ b
    b_long = length-take b (drop start bs) ∙ ap (min b) (length-drop start bs) ∙ omega (arith, b_is, reach)

    was_long : length was ≡ a
    was_long = length-take a (drop start bs) ∙ ap (min a) (length-drop start bs) ∙ omega (arith, a_is, there)

    more_long : length more ≡ end_ - first
    more_long = length-take (end_ - first) (drop first blk) ∙ ap (min (end_ - first)) (length-drop first blk) ∙ omega (arith, high)

    total : length (was ++ more) ≡ a + (end_ - first)
    total = length-append was more ∙ (λ i. was_long i + more_long i)

    each : (i : ℕ) → i < length (was ++ more) → get_or (was ++ more) i 0 ≡ get_or (take b (drop start bs)) i 0
    each i lt = go (leb a i) refl ∙ sym (get_or-take b (drop start bs) i 0 (omega (arith, lt, total, sum)) ∙ get_or-drop start bs i 0)
      where
        go : (t : Bool) → leb a i ≡ t → get_or (was ++ more) i 0 ≡ get_or bs (start + i) 0
        go false e =
            let h : i < a = leb-false a i e in
            get_or_append_left was more 0 i (omega (arith, was_long)) ∙ get_or-take a (drop start bs) i 0 h ∙ get_or-drop start bs i 0
        go true e =
            let h : a ≤ i = leb-true a i e in
            let at : 4096 * n + (first + (i - a)) ≡ start + i = omega (arith, a_is, first_is) in
            let before : i - a < end_ - first = omega (arith, lt, total) in
            get_or-append_right was more a i 0 was_long h
            ∙ get_or-take (end_ - first) (drop first blk) (i - a) 0 before
            ∙ get_or-drop first blk (i - a) 0
            ∙ ap (λ ys. get_or ys (first + (i - a)) 0) blk_is ∙ get_or-block n bs (first + (i - a)) (omega (arith, before, small_end)) ∙ ap (λ j. get_or bs j 0) at

-- what is read so far, with what one more block has of it
pub read_more : (bs blk : List ℕ) (start last n first end_ : ℕ) → blk ≡ block n bs → start ≤ last → last ≤ length bs → start < 4096 * (n + 1) → 4096 * n < last
    → first ≡ max start (n * 4096) - n * 4096 → end_ ≡ min last (n * 4096 + length blk) - n * 4096
    → take (min last (4096 * n) - start) (drop start bs) ++ take (end_ - first) (drop first blk) ≡ take (min last (4096 * (n + 1)) - start) (drop start bs)
read_more bs blk start last n first end_ blk_is low high reached within first_is end_is =
    read_on bs blk start n first end_ (min last (4096 * n) - start) (min last (4096 * (n + 1)) - start) blk_is (omega (arith, high, within)) (omega (arith, within)) first_short
    (omega (arith, first_short, end_short, low, reached)) (omega (arith, size, end_short, within)) (omega (arith, end_short, low, within))
  where
    size : length blk ≡ min 4096 (length bs - 4096 * n)
    size = ap length blk_is ∙ length-block n bs

    first_short : first ≡ start - 4096 * n
    first_short = omega (arith, first_is)

    end_short : end_ ≡ min last (4096 * (n + 1)) - 4096 * n
    end_short = omega (arith, end_is, size, high, within)

-- what is read in the end
pub read_all : (bs : List ℕ) (off len start count : ℕ) → start ≡ min off (length bs) → count ≡ min len (length bs - start) → take count (drop start bs) ≡ take len (drop off bs)
read_all bs off len start count start_is count_is =
    let l = length-drop off bs in
    let m : count ≡ min len (length (drop off bs)) = omega (arith, l, start_is, count_is) in
    (λ i. take (m i) (drop (start_is i) bs)) ∙ ap (take (min len (length (drop off bs)))) (drop_min off bs) ∙ take_min len (drop off bs)

-- ---- blocks cut

pub cut_is : (blocks kept : List (List ℕ)) (bs : List ℕ) (t c : ℕ) (y : List ℕ) → AreBlocksOf blocks bs → t ≤ length bs → c ≡ (t + 4095) / 4096 → kept ≡ take c blocks → 0 < c
    → y ≡ take (t - (c - 1) * 4096) (get_or kept (c - 1) []) → AreBlocksOf (set kept (c - 1) y) (with_size t bs)
cut_is blocks kept bs t c y are le c_is kept_is some y_is = cut_blocks blocks (set kept (c - 1) y) bs t are le (length-set kept (c - 1) y ∙ long ∙ c_is) same last
  where
    long : length kept ≡ c
    long = let l = length-take c blocks in let m = count_is blocks bs are in ap length kept_is ∙ omega (arith, l, m, c_is, le)

    same : (n : ℕ) → n + 1 < length (set kept (c - 1) y) → get_or (set kept (c - 1) y) n [] ≡ get_or blocks n []
    same n lt =
        let l = length-set kept (c - 1) y in
        get_or-set_other kept (c - 1) n y [] (λ e. omega (arith, e, l, lt, long)) ∙ ap (λ xs. get_or xs n []) kept_is ∙ get_or-take c blocks n [] (omega (arith, l, lt, long))

    last : (n : ℕ) → n + 1 ≡ length (set kept (c - 1) y) → get_or (set kept (c - 1) y) n [] ≡ take (t - 4096 * n) (get_or blocks n [])
    last n e =
        let l = length-set kept (c - 1) y in
        let at : n ≡ c - 1 = omega (arith, e, l, long) in
        let k : t - (c - 1) * 4096 ≡ t - 4096 * n = omega (arith, at) in
        ap (λ j. get_or (set kept (c - 1) y) j []) at ∙ get_or-set_same kept (c - 1) y [] (omega (arith, long, some))
        ∙ y_is ∙ ap (λ m. take m (get_or kept (c - 1) [])) k ∙ ap (take (t - 4096 * n)) (ap (λ j. get_or kept j []) (sym at) ∙ ap (λ xs. get_or xs n []) kept_is
        ∙ get_or-take c blocks n [] (omega (arith, at, some)))

pub cut_to_none : (blocks kept : List (List ℕ)) (bs : List ℕ) (t c : ℕ) → AreBlocksOf blocks bs → t ≤ length bs → c ≡ (t + 4095) / 4096 → kept ≡ take c blocks → c ≤ 0 → AreBlocksOf kept (with_size t bs)
cut_to_none blocks kept bs t c are le c_is kept_is none = cut_blocks blocks kept bs t are le (long ∙ c_is) (λ n lt. absurd (omega (arith, lt, long, none))) (λ n e. absurd (omega (arith, e, long, none)))
  where
    long : length kept ≡ c
    long = let l = length-take c blocks in let m = count_is blocks bs are in ap length kept_is ∙ omega (arith, l, m, c_is, le)

-- ---- taken back

-- what stood there written again, at the size before
pub written_back : (off : ℕ) (xs bs : List ℕ) → with_size (length bs) (with_bytes_at off (take (length xs) (drop off bs)) (with_bytes_at off xs bs)) ≡ bs
written_back off xs bs = sym (resized_is (length bs) again bs refl (λ i lt. go i lt (leb off i) refl (leb (off + length kept) i) refl))
  where
    kept : List ℕ
    kept = take (length xs) (drop off bs)

    again : List ℕ
    again = with_bytes_at off kept (with_bytes_at off xs bs)

    kept_long : length kept ≡ min (length xs) (length bs - off)
    kept_long = length-take (length xs) (drop off bs) ∙ ap (min (length xs)) (length-drop off bs)

    go : (i : ℕ) → i < length bs → (p : Bool) → leb off i ≡ p → (q : Bool) → leb (off + length kept) i ≡ q → get_or bs i 0 ≡ get_or again i 0
    go i lt false is q is' = let h : i < off = leb-false off i is in sym (get_or-written_before off kept (with_bytes_at off xs bs) i h ∙ get_or-written_before off xs bs i h)
    go i lt true is false is' =
        let h : off ≤ i = leb-true off i is in
        let g : i < off + length kept = leb-false (off + length kept) i is' in
        let at : off + (i - off) ≡ i = omega arith in
        sym (get_or-written_in off kept (with_bytes_at off xs bs) i h g ∙ get_or-take (length xs) (drop off bs) (i - off) 0 (omega (arith, kept_long)) ∙ get_or-drop off bs (i - off) 0 ∙ ap (λ j. get_or bs j 0) at)
    go i lt true is true is' =
        let g : off + length kept ≤ i = leb-true (off + length kept) i is' in
        sym (get_or-written_after off kept (with_bytes_at off xs bs) i g ∙ get_or-written_after off xs bs i (omega (arith, kept_long)))

-- what was cut off written again, at the size before
pub resized_back : (t : ℕ) (bs : List ℕ) → with_size (length bs) (with_bytes_at t (drop t bs) (with_size t bs)) ≡ bs
resized_back t bs = sym (resized_is (length bs) (with_bytes_at t (drop t bs) (with_size t bs)) bs refl (λ i lt. go i lt (leb t i) refl))
  where
    go : (i : ℕ) → i < length bs → (p : Bool) → leb t i ≡ p → get_or bs i 0 ≡ get_or (with_bytes_at t (drop t bs) (with_size t bs)) i 0
    go i lt false is = let h : i < t = leb-false t i is in sym (get_or-written_before t (drop t bs) (with_size t bs) i h ∙ get_or-with_size t bs i h)
    go i lt true is =
        let h : t ≤ i = leb-true t i is in
        let l = length-drop t bs in
        let at : t + (i - t) ≡ i = omega arith in
        sym (get_or-written_in t (drop t bs) (with_size t bs) i h (omega (arith, l, lt)) ∙ get_or-drop t bs (i - t) 0 ∙ ap (λ j. get_or bs j 0) at)
