-- What pieces of new contents make of the old ones.
use Rattle.std.proofs.Common.{◌≡◌, ℕ, zero, suc, ◌⊎◌, inl, inr, ⊎_elim, ◌+◌, ◌-◌, ◌*◌, ◌/◌, ◌<◌, ◌≤◌, true, false, not, nat_eq, nat_lt, min, max, List, [], ◌∷◌, length, take, drop, get_or, slice_get, Some, refl, sym, ap, subst, ◌∙◌, arith}
use Rattle.std.specs.Cmp.Lexicographic.{pointwise}
use Rattle.std.specs.List.{All, Any}
use Rattle.std.proofs.lemmas.List.{length-take, length-drop, get_or-take, get_or-drop, ext_get_or, take_min, drop_min, nil_from_length}
use Rattle.std.proofs.lemmas.Option.{slice_get-get_or}
use Rattle.std.proofs.lemmas.List.Elements.{All-head, All-tail}
use Rattle.std.proofs.lemmas.Bool.{not-false, not_from_true, true≢false, cases_lt, cases_Bool, cond-true, cond-false, lt-ltb, le-ltb}
use Rattle.std.proofs.lemmas.Slice.Eq.{bytes_eq-Decides}
use Rattle.su_node.specs.Field.{block}
use Rattle.su_node.specs.Inode.{within}
use Rattle.su_node.specs.InodeChange.{with_size, with_bytes_at}
use Rattle.su_node.proofs.Public.{length-block, get_or-block, length-with_size, get_or-with_size, length-with_bytes_at, get_or-written_in, get_or-written_before, get_or-written_after}
use Rattle.su_pieces.specs.declared.pieces.Piece.{Piece}
use Rattle.su_pieces.specs.Piece.{differs, HasBlock, HasByte, IsPiece, ArePieces, with_pieces, put_over}

-- ---- some element

-- the first one, or one behind it
pub any_cases : {X : Type 0} (P : X → Type 0) (x : X) (xs : List X) → Any P (x ∷ xs) → P x ⊎ Any P xs
any_cases P x xs (zero, y, lt, at, has) = inl (subst P (sym at) has)
any_cases P x xs (suc k, y, lt, at, has) = inr (k, y, omega arith, at, has)

-- by what holds of each
pub any_with : {X : Type 0} (P Q R : X → Type 0) (xs : List X) → ((x : X) → Q x → P x → R x) → All Q xs → Any P xs → Any R xs
any_with P Q R xs gives all (k, x, lt, at, has) = (k, x, lt, at, gives x (subst Q at (all k x lt)) has)

-- ---- what is read

-- a range of what is there
pub within_is : (off len start count : ℕ) (bs : List ℕ) → start ≡ min off (length bs) → count ≡ min len (length bs - start)
    → take count (drop start bs) ≡ within off len bs
within_is off len start count bs start_is count_is =
    let l = length-drop off bs in
    let m : count ≡ min len (length (drop off bs)) = omega (arith, l, start_is, count_is) in
    (λ i. take (m i) (drop (start_is i) bs)) ∙ ap (take (min len (length (drop off bs)))) (drop_min off bs) ∙ take_min len (drop off bs)

length-within : (off len : ℕ) (bs : List ℕ) → length (within off len bs) ≡ min len (length bs - off)
length-within off len bs = length-take len (drop off bs) ∙ ap (min len) (length-drop off bs)

get_or-within : (off len i : ℕ) (bs : List ℕ) → off ≤ i → i < off + len → get_or (within off len bs) (i - off) 0 ≡ get_or bs i 0
get_or-within off len i bs low high =
    let at : off + (i - off) ≡ i = omega arith in
    get_or-take len (drop off bs) (i - off) 0 (omega arith) ∙ get_or-drop off bs (i - off) 0 ∙ ap (λ j. get_or bs j 0) at

-- ---- blocks that differ

-- there is none behind the end
pub differs_past : (old new : List ℕ) (n : ℕ) → length new ≤ 4096 * n → differs old new n ≡ false
unfolding differs
differs_past old new n le =
    let none : block n new ≡ [] = nil_from_length (block n new) (let l = length-block n new in omega arith) in
    ap (λ b. not (pointwise nat_eq (within (4096 * n) (length b) old) b)) none

-- a block that doesn't differ stands in the old contents
stands : (old new : List ℕ) (n : ℕ) → differs old new n ≡ false → within (4096 * n) (length (block n new)) old ≡ block n new
unfolding differs
stands old new n same = (bytes_eq-Decides (within (4096 * n) (length (block n new)) old) (block n new)).0 (not-false _ same)

pub same_byte : (old new : List ℕ) (n i : ℕ) → differs old new n ≡ false → 4096 * n ≤ i → i < 4096 * n + 4096 → i < length new
    → get_or old i 0 ≡ get_or new i 0
same_byte old new n i same low high inside =
    let l = length-block n new in
    let at : 4096 * n + (i - 4096 * n) ≡ i = omega arith in
    sym (get_or-within (4096 * n) (length (block n new)) i old low (omega arith))
    ∙ ap (λ b. get_or b (i - 4096 * n) 0) (stands old new n same)
    ∙ get_or-block n new (i - 4096 * n) (omega arith) ∙ ap (λ j. get_or new j 0) at

pub same_reach : (old new : List ℕ) (n i : ℕ) → differs old new n ≡ false → 4096 * n ≤ i → i < 4096 * n + 4096 → i < length new → i < length old
same_reach old new n i same low high inside =
    let l = length-block n new in
    let k = ap length (stands old new n same) in
    let m = length-within (4096 * n) (length (block n new)) old in
    omega arith

-- of the same contents none differs
pub differs_same : (bs : List ℕ) (n : ℕ) → differs bs bs n ≡ false
unfolding differs block
differs_same bs n =
    let d = drop (4096 * n) bs in
    let e : within (4096 * n) (length (block n bs)) bs ≡ block n bs = ap (λ k. take k d) (length-take 4096 d) ∙ take_min 4096 d in
    not_from_true _ ((bytes_eq-Decides (within (4096 * n) (length (block n bs)) bs) (block n bs)).1 e)

-- ---- pieces

-- a byte of a block that begins in a piece lies in it
pub byte_in : (old new : List ℕ) (n i : ℕ) (p : Piece) → 4096 * n ≤ i → i < 4096 * n + 4096 → i < length new → IsPiece old new p → HasBlock n p → HasByte i p
byte_in old new n i p low high inside is has =
    (omega (arith, has.0), ⊎_elim (λ e. omega (arith, e, has.1)) (λ e. omega (arith, e)) is.ends)

-- of the same contents there are none
pub none_of_same : (bs : List ℕ) (ps : List Piece) → All (IsPiece bs bs) ps → ps ≡ []
none_of_same bs [] each = refl
none_of_same bs (p ∷ ps) each =
    let is : IsPiece bs bs p = All-head (IsPiece bs bs) p ps each in
    let n = p.off / 4096 in
    let some = is.some in
    let begins = is.begins in
    absurd (true≢false (sym (is.differ n (omega arith, omega arith)) ∙ differs_same bs n))

-- ---- what is written

-- a write of a piece
piece_written : (new bs : List ℕ) (i : ℕ) (p : Piece) → p.off + p.len ≤ length new
    → (get_or bs i 0 ≡ get_or new i 0) ⊎ HasByte i p
    → get_or (with_bytes_at p.off (within p.off p.len new) bs) i 0 ≡ get_or new i 0
piece_written new bs i p inside same = go (cases_lt i p.off) (cases_lt i (p.off + p.len)) same
  where
    l : length (within p.off p.len new) ≡ p.len
    l = length-within p.off p.len new ∙ omega arith

    go : (i < p.off) ⊎ (p.off ≤ i) → (i < p.off + p.len) ⊎ (p.off + p.len ≤ i) → (get_or bs i 0 ≡ get_or new i 0) ⊎ HasByte i p
        → get_or (with_bytes_at p.off (within p.off p.len new) bs) i 0 ≡ get_or new i 0
    go (inr low) (inl high) _ = get_or-written_in p.off (within p.off p.len new) bs i low (omega (arith, l)) ∙ get_or-within p.off p.len i new low high
    go (inl before) _ (inl e) = get_or-written_before p.off (within p.off p.len new) bs i before ∙ e
    go (inr low) (inr after) (inl e) = get_or-written_after p.off (within p.off p.len new) bs i (omega (arith, l)) ∙ e
    go (inl before) _ (inr has) = absurd (omega (arith, has.0))
    go (inr low) (inr after) (inr has) = absurd (omega (arith, has.1))

abbrev LiesIn : List ℕ → Piece → Type 0
LiesIn new p = p.off + p.len ≤ length new

first_or_rest : (new bs : List ℕ) (i : ℕ) (p : Piece) (ps : List Piece) → (get_or bs i 0 ≡ get_or new i 0) ⊎ Any (HasByte i) (p ∷ ps)
    → ((get_or bs i 0 ≡ get_or new i 0) ⊎ HasByte i p) ⊎ Any (HasByte i) ps
first_or_rest new bs i p ps (inl e) = inl (inl e)
first_or_rest new bs i p ps (inr any) = ⊎_elim (λ has. inl (inr has)) (λ rest. inr rest) (any_cases (HasByte i) p ps any)

-- after all writes a byte is the new one, if it was or lies in a piece
pieces_written : (new : List ℕ) (i : ℕ) (ps : List Piece) (bs : List ℕ) → All (LiesIn new) ps
    → (get_or bs i 0 ≡ get_or new i 0) ⊎ Any (HasByte i) ps → get_or (with_pieces new ps bs) i 0 ≡ get_or new i 0
pieces_written new i [] bs inside (inl e) = e
pieces_written new i [] bs inside (inr (k, x, lt, at, has)) = absurd (omega (arith, lt))
pieces_written new i (p ∷ ps) bs inside same =
    let next = with_bytes_at p.off (within p.off p.len new) bs in
    let in_p : LiesIn new p = All-head (LiesIn new) p ps inside in
    let in_ps : All (LiesIn new) ps = All-tail (LiesIn new) p ps inside in
    ⊎_elim (λ here. pieces_written new i ps next in_ps (inl (piece_written new bs i p in_p here))) (λ rest. pieces_written new i ps next in_ps (inr rest))
    (first_or_rest new bs i p ps same)

-- no write makes the file shorter
length_kept : (new : List ℕ) (ps : List Piece) (bs : List ℕ) → length bs ≤ length (with_pieces new ps bs)
length_kept new [] bs = omega arith
length_kept new (p ∷ ps) bs =
    let l = length-with_bytes_at p.off (within p.off p.len new) bs in
    let rest = length_kept new ps (with_bytes_at p.off (within p.off p.len new) bs) in
    omega arith

-- or longer than the new contents, unless it was
length_bound : (new : List ℕ) (ps : List Piece) (bs : List ℕ) → All (LiesIn new) ps → length (with_pieces new ps bs) ≤ max (length bs) (length new)
length_bound new [] bs inside = omega arith
length_bound new (p ∷ ps) bs inside =
    let l = length-with_bytes_at p.off (within p.off p.len new) bs in
    let k = length-within p.off p.len new in
    let in_p : LiesIn new p = All-head (LiesIn new) p ps inside in
    let rest = length_bound new ps (with_bytes_at p.off (within p.off p.len new) bs) (All-tail (LiesIn new) p ps inside) in
    omega arith

-- each byte of a piece is there afterwards
length_reach : (new : List ℕ) (i : ℕ) (ps : List Piece) (bs : List ℕ) → All (LiesIn new) ps → Any (HasByte i) ps → i < length (with_pieces new ps bs)
length_reach new i [] bs inside (k, x, lt, at, has) = absurd (omega (arith, lt))
length_reach new i (p ∷ ps) bs inside any =
    let next = with_bytes_at p.off (within p.off p.len new) bs in
    let in_p : LiesIn new p = All-head (LiesIn new) p ps inside in
    let in_ps : All (LiesIn new) ps = All-tail (LiesIn new) p ps inside in
    let l = length-with_bytes_at p.off (within p.off p.len new) bs in
    let k = length-within p.off p.len new in
    let kept = length_kept new ps next in
    ⊎_elim (λ (has : HasByte i p). omega (arith, has.0, has.1)) (λ rest. length_reach new i ps next in_ps rest) (any_cases (HasByte i) p ps any)

-- ---- all of it

inside_all : (old new : List ℕ) (ps : List Piece) → All (IsPiece old new) ps → All (LiesIn new) ps
inside_all old new ps each k d lt = (each k d lt).inside

-- the block of a byte
block_of : (i : ℕ) → (4096 * (i / 4096) ≤ i) × (i < 4096 * (i / 4096) + 4096)
block_of i = (omega arith, omega arith)

-- a byte lies in a piece where its block differs
pub covered : (old new : List ℕ) (ps : List Piece) (i : ℕ) → ArePieces old new ps → i < length new → differs old new (i / 4096) ≡ true → Any (HasByte i) ps
covered old new ps i are inside differ =
    let b = block_of i in
    any_with (HasBlock (i / 4096)) (IsPiece old new) (HasByte i) ps
    (λ p is has. byte_in old new (i / 4096) i p b.0 b.1 inside is has) are.each (are.all (i / 4096) differ)

-- what lies in no piece is the same
pub same_outside : (old new : List ℕ) (ps : List Piece) (i : ℕ) → ArePieces old new ps → i < length new → (Any (HasByte i) ps → ⊥)
    → (get_or old i 0 ≡ get_or new i 0) × (i < length old)
same_outside old new ps i are inside none = go (cases_Bool (differs old new (i / 4096)))
  where
    go : (differs old new (i / 4096) ≡ true) ⊎ (differs old new (i / 4096) ≡ false) → (get_or old i 0 ≡ get_or new i 0) × (i < length old)
    go (inl differ) = absurd (none (covered old new ps i are inside differ))
    go (inr same) =
        let b = block_of i in
        (same_byte old new (i / 4096) i same b.0 b.1 inside, same_reach old new (i / 4096) i same b.0 b.1 inside)

-- as it is read
pub same_item : (old new : List ℕ) (ps : List Piece) (i : ℕ) → ArePieces old new ps → i < length new → (Any (HasByte i) ps → ⊥) → slice_get old i ≡ slice_get new i
same_item old new ps i are inside none =
    let (same, reach) = same_outside old new ps i are inside none in
    slice_get-get_or old i 0 reach ∙ ap Some same ∙ sym (slice_get-get_or new i 0 inside)

-- each byte of the new contents is there after the writes
byte_made : (old new : List ℕ) (ps : List Piece) → ArePieces old new ps → (i : ℕ) → i < length new → get_or (with_pieces new ps old) i 0 ≡ get_or new i 0
byte_made old new ps are i inside = pieces_written new i ps old (inside_all old new ps are.each) (go (cases_Bool (differs old new (i / 4096))))
  where
    go : (differs old new (i / 4096) ≡ true) ⊎ (differs old new (i / 4096) ≡ false) → (get_or old i 0 ≡ get_or new i 0) ⊎ Any (HasByte i) ps
    go (inl differ) = inr (covered old new ps i are inside differ)
    go (inr same) = let b = block_of i in inl (same_byte old new (i / 4096) i same b.0 b.1 inside)

-- and no more, where the old ones weren't longer
length_made : (old new : List ℕ) (ps : List Piece) → ArePieces old new ps → length old ≤ length new → length (with_pieces new ps old) ≡ length new
length_made old new ps are le = go (cases_lt (length old) (length new))
  where
    bound : length (with_pieces new ps old) ≤ max (length old) (length new)
    bound = length_bound new ps old (inside_all old new ps are.each)

    go : (length old < length new) ⊎ (length new ≤ length old) → length (with_pieces new ps old) ≡ length new
    go (inr ge) = let k = length_kept new ps old in omega (arith, bound)
    go (inl lt) = reach (cases_Bool (differs old new ((length new - 1) / 4096)))
      where
        reach : (differs old new ((length new - 1) / 4096) ≡ true) ⊎ (differs old new ((length new - 1) / 4096) ≡ false) → length (with_pieces new ps old) ≡ length new
        reach (inl differ) =
            let c = length_reach new (length new - 1) ps old (inside_all old new ps are.each) (covered old new ps (length new - 1) are (omega arith) differ) in
            omega (arith, bound)
        reach (inr same) =
            let b = block_of (length new - 1) in
            let r = same_reach old new ((length new - 1) / 4096) (length new - 1) same b.0 b.1 (omega arith) in
            absurd (omega arith)

-- pieces make the new contents of the old ones
pub put_over_is : (old new : List ℕ) (ps : List Piece) → ArePieces old new ps → put_over old new ps ≡ new
put_over_is old new ps are = go (cases_lt (length new) (length old))
  where
    go : (length new < length old) ⊎ (length old ≤ length new) → put_over old new ps ≡ new
    go (inl lt) =
        let l = length-with_size (length new) (with_pieces new ps old) in
        cond-true (nat_lt (length new) (length old)) (with_size (length new) (with_pieces new ps old)) (with_pieces new ps old) (lt-ltb (length new) (length old) lt)
        ∙ ext_get_or 0 (with_size (length new) (with_pieces new ps old)) new l
        (λ i h. let inside : i < length new = omega arith in get_or-with_size (length new) (with_pieces new ps old) i inside ∙ byte_made old new ps are i inside)
    go (inr ge) =
        let l = length_made old new ps are ge in
        cond-false (nat_lt (length new) (length old)) (with_size (length new) (with_pieces new ps old)) (with_pieces new ps old) (le-ltb (length new) (length old) ge)
        ∙ ext_get_or 0 (with_pieces new ps old) new l (λ i h. let inside : i < length new = omega arith in byte_made old new ps are i inside)
