-- Blocks that are written in place, cut, or taken out.
use Rattle.std.proofs.Common.{◌≡◌, ◌≢◌, ◌∙◌, ℕ, suc, zero, ◌+◌, ◌-◌, ◌*◌, ◌/◌, ◌%◌, ◌<◌, ◌≤◌, ◌^◌, Bool, true, false, cond, not, min, max, List, [], ◌∷◌, length, take, drop, Option, Some, None, refl, sym, ap, subst, arith, inl, inr, IsTrue}
use Rattle.std.specs.Prelude.{IsSome, nat_lt}
use Rattle.std.specs.BTreeMap.{is_at}
use Rattle.std.specs.Ordering.{nat_cmp, eq_by_cmp}
use Rattle.std.specs.FinMap.Entries as by
use Rattle.std.proofs.lemmas.Bool.Decides.{nat_tests}
use Rattle.std.proofs.lemmas.List.{length-take, get_or-take, nil_from_length}
use Rattle.sha2.specs.Sha256.{sha256}
use Rattle.su_tree.specs.Number.{number_bits, is_u32}
use Rattle.su_tree.specs.Value.{is_digest}
use Rattle.su_tree.specs.Laws.Numbers as number
use Rattle.su_hash_tree.specs.Edits.{value_at, with_value, without_key}
use Rattle.su_hash_tree.specs.Seen.{without}
use Rattle.su_hash_tree.proofs.Compared.{find_by_order, put_by_order, without_by_order, keys_meant}
use Rattle.su_hash_tree.proofs.Standing.{stands_map}
use Rattle.su_part_tree.specs.declared.parts.PartTree.{PartTree}
use Rattle.su_part_tree.specs.Part.{StandsFor, IsKnown, reaches}
use Rattle.su_node.specs.Field.{block}
use Rattle.su_node.specs.Digest.{block_item, block_count, block_digests}
use Rattle.su_node.specs.InodeChange.{with_size, with_bytes_at}
use Rattle.su_node.proofs.Contents.{block_is, length-block, get_or-block, length-with_size, get_or-with_size}
use Rattle.su_part.specs.declared.blocks.PartBytes.{PartBytes}
use Rattle.su_part.specs.Bytes.{number_sort, StandsBytes, IsBlockOf, loaded_block}
use Rattle.su_part.specs.InPlace.{IsReplaced, IsThese, HasJust, KeepsBelow, digests_of, half_cut}
use Rattle.su_part.proofs.Numbers.{same_number}
use Rattle.su_part.proofs.BytesLemmas.{is_number}
use Rattle.su_part.proofs.WriteLemmas.{Midway, mixed, mixed_digest, numbered, numbered_put, stepped_by, block_grown, block_written}
use Rattle.su_node.proofs.Contents.{resized_same}

-- ---- values at the numbers before a bound

pub numbered_below : {X : Type 0} (f g : ℕ → X) (from count : ℕ) → ((n : ℕ) → from ≤ n → n < from + count → f n ≡ g n) → numbered f from count ≡ numbered g from count
numbered_below f g from zero same = refl
numbered_below f g from (suc count) same = λ i. (from, same from (omega arith) (omega arith) i) ∷ numbered_below f g (from + 1) count (λ n low high. same n (omega (arith, low)) (omega (arith, high))) i

pub numbered_found : {X : Type 0} (f : ℕ → X) (n from count : ℕ) → from ≤ n → n < from + count → by.find nat_cmp n (numbered f from count) ≡ Some (f n)
numbered_found f n from zero low high = absurd (omega (arith, low, high))
numbered_found f n from (suc count) low high = go (is_at (nat_cmp n) from) refl (λ later. numbered_found f n (from + 1) count later (omega (arith, high)))
  where
    later : (n from : ℕ) → from ≤ n → is_at (nat_cmp n) from ≡ false → from + 1 ≤ n
    later n from low e = grind (arith, nat_tests, low, e)

    go : (b : Bool) → is_at (nat_cmp n) from ≡ b → (from + 1 ≤ n → by.find nat_cmp n (numbered f (from + 1) count) ≡ Some (f n))
        → cond b (Some (f from)) (by.find nat_cmp n (numbered f (from + 1) count)) ≡ Some (f n)
    go true e rest = ap (λ k. Some (f k)) (sym (same_number n from e))
    go false e rest = rest (later n from low e)

is_gone : (k n : ℕ) → k ≡ n → not (eq_by_cmp nat_cmp k n) ≡ false
is_gone k n e = grind (arith, nat_tests, e)

is_kept : (k n : ℕ) → n < k → not (eq_by_cmp nat_cmp k n) ≡ true
is_kept k n e = grind (arith, nat_tests, e)

-- the last one is taken out
pub numbered_without : {X : Type 0} (f : ℕ → X) (k from count : ℕ) → k ≡ from + count → without nat_cmp k (numbered f from (suc count)) ≡ numbered f from count
numbered_without f k from zero e = ap (λ b. cond b ((from, f from) ∷ []) []) (is_gone k from (omega (arith, e)))
numbered_without f k from (suc count) e =
    ap (λ b. cond b ((from, f from) ∷ without nat_cmp k (numbered f (from + 1) (suc count))) (without nat_cmp k (numbered f (from + 1) (suc count)))) (is_kept k from (omega (arith, e)))
    ∙ ap (λ es. (from, f from) ∷ es) (numbered_without f k (from + 1) count (omega (arith, e)))

-- ---- the blocks that a part has

pub digest_of : (f : ℕ → List ℕ) → ℕ → List ℕ
digest_of f n = sha256 (block_item (f n))

module _ (f : ℕ → List ℕ) (k : ℕ) (t : PartTree ℕ (List ℕ)) (h : StandsFor number_sort t (digests_of f k)) (n : ℕ) (small : n < 2 ^ 32) where
  pub value_there : n < k → value_at number_bits n (digests_of f k) ≡ Some (sha256 (block_item (f n)))
  value_there lt =
      find_by_order is_u32 number_bits nat_cmp number.ordered n (digests_of f k) (is_number n small) (keys_meant is_u32 is_digest (digests_of f k) (stands_map number_sort t.root (digests_of f k) h).good)
      ∙ numbered_found (λ j. sha256 (block_item (f j))) n 0 k (omega arith) (omega (arith, lt))

  pub value_some : n < k → value_at number_bits n (digests_of f k) ≢ None
  value_some lt none = let z : Some (sha256 (block_item (f n))) ≡ None = sym (value_there lt) ∙ none in absurd cc

-- one is replaced
pub replaced_just : (f g : ℕ → List ℕ) (k count : ℕ) (x : List ℕ) (b c : PartBytes) → HasJust f count b → IsReplaced k x b c → x ≡ g k → ((n : ℕ) → n ≢ k → f n ≡ g n) → k < count → k < 2 ^ 32 → HasJust g count c
replaced_just f g k count x b c h r here same lt small = record {
  digests = subst (StandsFor number_sort c.digests) put (r.digests (digests_of f count) h.digests (value_some f count b.digests h.digests k small lt));
  blocks = λ n low. subst (IsThese (g n)) (sym (r.blocks n)) (each n low (is_at (nat_cmp k) n) refl);
  behind = λ n high. subst (IsThese []) (sym (r.blocks n)) (past n high (is_at (nat_cmp k) n) refl);
}
  where
    put : with_value number_bits k (sha256 (block_item x)) (digests_of f count) ≡ digests_of g count
    put =
        put_by_order is_u32 number_bits nat_cmp number.ordered k (sha256 (block_item x)) (digests_of f count) (is_number k small) (keys_meant is_u32 is_digest (digests_of f count) (stands_map number_sort b.digests.root (digests_of f count) h.digests).good)
        ∙ numbered_put (λ j. sha256 (block_item (f j))) (λ j. sha256 (block_item (g j))) k (sha256 (block_item x)) 0 count count (ap (λ y. sha256 (block_item y)) (sym here)) (λ n other. ap (λ y. sha256 (block_item y)) (same n other)) (omega arith) (omega (arith, lt)) (omega (arith, lt))

    apart : (n : ℕ) → is_at (nat_cmp k) n ≡ false → n ≢ k
    apart n e s = absurd (let z : is_at (nat_cmp k) n ≡ true = grind (arith, nat_tests, s) in let y : true ≡ false = sym z ∙ e in cc)

    each : (n : ℕ) → n < count → (t : Bool) → is_at (nat_cmp k) n ≡ t → IsThese (g n) (cond t (Some x) (loaded_block b n))
    each n low true e = here ∙ ap g (same_number k n e)
    each n low false e = subst (λ y. IsThese y (loaded_block b n)) (same n (apart n e)) (h.blocks n low)

    past : (n : ℕ) → count ≤ n → (t : Bool) → is_at (nat_cmp k) n ≡ t → IsThese [] (cond t (Some x) (loaded_block b n))
    past n high true e = let s = same_number k n e in absurd (omega (arith, s, high, lt))
    past n high false e = h.behind n high

-- the same blocks
pub just_alike : (f g : ℕ → List ℕ) (k : ℕ) (b : PartBytes) → ((n : ℕ) → n < k → f n ≡ g n) → HasJust f k b → HasJust g k b
just_alike f g k b same h = record {
  digests = subst (StandsFor number_sort b.digests) (numbered_below (λ j. sha256 (block_item (f j))) (λ j. sha256 (block_item (g j))) 0 k (λ n low high. ap (λ y. sha256 (block_item y)) (same n (omega (arith, high))))) h.digests;
  blocks = λ n lt. subst (λ y. IsThese y (loaded_block b n)) (same n lt) (h.blocks n lt);
  behind = h.behind;
}

-- the last one is taken out
module _ (f : ℕ → List ℕ) (k : ℕ) (b c : PartBytes) (h : HasJust f (k + 1) b) (small : k < 2 ^ 32) (updates : (n : ℕ) → loaded_block c n ≡ cond (is_at (nat_cmp k) n) None (loaded_block b n))
    (stands : StandsFor number_sort c.digests (without_key number_bits k (digests_of f (k + 1)))) where
  without_last : without_key number_bits k (digests_of f (k + 1)) ≡ digests_of f k
  without_last =
      let e : k + 1 ≡ suc k = omega arith in
      without_by_order is_u32 number_bits nat_cmp number.ordered k (digests_of f (k + 1)) (is_number k small) (keys_meant is_u32 is_digest (digests_of f (k + 1)) (stands_map number_sort b.digests.root (digests_of f (k + 1)) h.digests).good)
      ∙ ap (λ j. without nat_cmp k (digests_of f j)) e ∙ numbered_without (λ j. sha256 (block_item (f j))) k 0 k (omega arith)

  apart : (n : ℕ) → n < k → is_at (nat_cmp k) n ≡ false
  apart n lt = grind (arith, nat_tests, lt)

  pub taken_just : HasJust f k c
  taken_just = record {
    digests = subst (StandsFor number_sort c.digests) without_last stands;
    blocks = λ n lt. subst (IsThese (f n)) (sym (updates n ∙ ap (λ t. cond t None (loaded_block b n)) (apart n lt))) (h.blocks n (omega (arith, lt)));
    behind = λ n le. subst (IsThese []) (sym (updates n)) (past n le (is_at (nat_cmp k) n) refl);
  }
    where
      past : (n : ℕ) → k ≤ n → (t : Bool) → is_at (nat_cmp k) n ≡ t → IsThese [] (cond t None (loaded_block b n))
      past n le true e = tt
      past n le false e = h.behind n (grind (arith, nat_tests, le, e))

  pub taken_keeps : ((n : ℕ) → IsKnown number_bits n b.digests (digests_of f (k + 1)) → IsKnown number_bits n c.digests (without_key number_bits k (digests_of f (k + 1)))) → KeepsBelow k b c
  taken_keeps stays = record {
    paths = λ n lt reached. go n lt (stays n (inl reached));
    loaded = λ n lt some. subst IsSome (sym (updates n ∙ ap (λ t. cond t None (loaded_block b n)) (apart n lt))) some;
  }
    where
      go : (n : ℕ) → n < k → IsKnown number_bits n c.digests (without_key number_bits k (digests_of f (k + 1))) → IsTrue (reaches number_bits n c.digests)
      go n lt (inl x) = x
      go n lt (inr none) =
          absurd (value_some f k c.digests (subst (StandsFor number_sort c.digests) without_last stands) n (omega (arith, lt, small)) lt (sym (ap (value_at number_bits n) without_last) ∙ none))

pub below_on : (k j : ℕ) (b c d : PartBytes) → j ≤ k → KeepsBelow k b c → KeepsBelow j c d → KeepsBelow j b d
below_on k j b c d le p q = record {
  paths = λ n lt x. q.paths n lt (p.paths n (omega (arith, lt, le)) x);
  loaded = λ n lt x. q.loaded n lt (p.loaded n (omega (arith, lt, le)) x);
}

pub below_itself : (k : ℕ) (b : PartBytes) → KeepsBelow k b b
below_itself k b = record { paths = λ n lt x. x; loaded = λ n lt x. x }

-- ---- the blocks of a file

past_end : (n : ℕ) (bs : List ℕ) → length bs ≤ 4096 * n → block n bs ≡ []
past_end n bs past = nil_from_length (block n bs) (length-block n bs ∙ omega (arith, past))

pub these_are : (bs : List ℕ) (n : ℕ) (o : Option (List ℕ)) → IsBlockOf bs n o → IsThese (block n bs) o
these_are bs n None h = tt
these_are bs n (Some x) h = h

are_these : (bs : List ℕ) (n : ℕ) (o : Option (List ℕ)) → IsThese (block n bs) o → IsBlockOf bs n o
are_these bs n None h = tt
are_these bs n (Some x) h = h

pub just_all : (b : PartBytes) (bs : List ℕ) → StandsBytes b bs → HasJust (λ n. block n bs) (block_count (length bs)) b
unfolding block_digests
just_all b bs h = record {
  digests = h.digests;
  blocks = λ n lt. these_are bs n (loaded_block b n) (h.blocks n);
  behind = λ n le. subst (λ y. IsThese y (loaded_block b n)) (past_end n bs (omega (arith, le))) (these_are bs n (loaded_block b n) (h.blocks n));
}

pub all_just : (f : ℕ → List ℕ) (k size : ℕ) (b : PartBytes) (bs : List ℕ) → HasJust f k b → k ≡ block_count (length bs) → size ≡ length bs → ((n : ℕ) → n < k → f n ≡ block n bs) → StandsBytes (record b { size = size }) bs
unfolding block_digests
all_just f k size b bs h k_is size_is same = record {
  size = size_is;
  digests = subst (λ j. StandsFor number_sort b.digests (digests_of (λ n. block n bs) j)) k_is (just_alike f (λ n. block n bs) k b same h).digests;
  blocks = λ n. are_these bs n (loaded_block b n) (go n (nat_lt n k) refl);
}
  where
    go : (n : ℕ) (t : Bool) → nat_lt n k ≡ t → IsThese (block n bs) (loaded_block b n)
    go n true e = let lt : n < k = grind (arith, nat_tests, e) in subst (λ y. IsThese y (loaded_block b n)) (same n lt) (h.blocks n lt)
    go n false e =
        let le : k ≤ n = grind (arith, nat_tests, e) in
        subst (λ y. IsThese y (loaded_block b n)) (sym (past_end n bs (omega (arith, le, k_is)))) (h.behind n le)

-- ---- a file that is cut

-- a block before the one that the cut goes through
cut_before : (n size : ℕ) (bs : List ℕ) → 4096 * (n + 1) ≤ size → size ≤ length bs → block n bs ≡ block n (with_size size bs)
cut_before n size bs le within =
    let l = length-with_size size bs in
    let m = length-block n bs in
    block_is n (with_size size bs) (block n bs) (m ∙ omega (arith, l, le, within))
    (λ i lt. get_or-block n bs i (omega (arith, m, lt)) ∙ sym (get_or-with_size size bs (4096 * n + i) (omega (arith, m, lt, le))))

-- and that one
cut_in : (n len size : ℕ) (bs : List ℕ) → size ≡ 4096 * n + len → len < 4096 → size ≤ length bs → take len (block n bs) ≡ block n (with_size size bs)
cut_in n len size bs is low within =
    let l = length-with_size size bs in
    let m = length-block n bs in
    let k = length-take len (block n bs) in
    block_is n (with_size size bs) (take len (block n bs)) (omega (arith, k, m, l, is, low, within))
    (λ i lt.
    get_or-take len (block n bs) i 0 (omega (arith, k, lt)) ∙ get_or-block n bs i (omega (arith, k, lt, low)) ∙ sym (get_or-with_size size bs (4096 * n + i) (omega (arith, k, lt, is))))

module _ (size : ℕ) (bs : List ℕ) (within : size ≤ length bs) where
  half_low : (n : ℕ) → n < block_count size → half_cut size bs n ≡ block n (with_size size bs)
  half_low n lt = let e : nat_lt n (block_count size) ≡ true = grind (arith, nat_tests, lt) in ap (λ t. cond t (block n (with_size size bs)) (block n bs)) e

  -- the others are as they were
  half_other : (n : ℕ) → n ≢ size / 4096 → block n bs ≡ half_cut size bs n
  half_other n other = go (nat_lt n (block_count size)) refl
    where
      go : (t : Bool) → nat_lt n (block_count size) ≡ t → block n bs ≡ cond t (block n (with_size size bs)) (block n bs)
      go true e = let lt : n < block_count size = grind (arith, nat_tests, e) in cut_before n size bs (omega (arith, lt, other)) within
      go false e = refl

  -- it goes through none
  pub cut_none : (b : PartBytes) → size % 4096 ≡ 0 → StandsBytes b bs → HasJust (half_cut size bs) (block_count (length bs)) b
  cut_none b none h = just_alike (λ n. block n bs) (half_cut size bs) (block_count (length bs)) b (λ n lt. go n (nat_lt n (block_count size)) refl) (just_all b bs h)
    where
      go : (n : ℕ) (t : Bool) → nat_lt n (block_count size) ≡ t → block n bs ≡ cond t (block n (with_size size bs)) (block n bs)
      go n true e = let lt : n < block_count size = grind (arith, nat_tests, e) in cut_before n size bs (omega (arith, lt, none)) within
      go n false e = refl

  -- it goes through one
  pub cut_one : (b c : PartBytes) (k len : ℕ) → k ≡ size / 4096 → len ≡ size % 4096 → 0 < len → size < length bs → k < 2 ^ 32 → StandsBytes b bs → IsReplaced k (take len (block k bs)) b c → HasJust (half_cut size bs) (block_count (length bs)) c
  cut_one b c k len k_is len_is some below small h r =
      replaced_just (λ n. block n bs) (half_cut size bs) k (block_count (length bs)) (take len (block k bs)) b c (just_all b bs h) r
      (cut_in k len size bs (omega (arith, k_is, len_is)) (omega (arith, len_is)) within ∙ sym (half_low k (omega (arith, k_is, len_is, some))))
      (λ n other. half_other n (λ e. other (e ∙ sym k_is))) (omega (arith, k_is, below)) small

  pub cut_done : (c : PartBytes) → HasJust (half_cut size bs) (block_count size) c → StandsBytes (record c { size = size }) (with_size size bs)
  cut_done c h =
      let l = length-with_size size bs in
      all_just (half_cut size bs) (block_count size) size c (with_size size bs) h (ap block_count (sym l)) (sym l) half_low

-- ---- a file that is written in place

-- one block more, of which the digest is there
pub stepped_in : (bs new : List ℕ) (k : ℕ) (c d : PartBytes) → Midway bs new k c → IsReplaced k (block k new) c d → k < 2 ^ 32 → k < block_count (length bs) → Midway bs new (k + 1) d
stepped_in bs new k c d m r small lt =
    stepped_by bs new k c d m small r.size (r.digests (numbered (mixed_digest bs new k) 0 (max (block_count (length bs)) k)) m.digests (value_some (mixed bs new k) (max (block_count (length bs)) k) c.digests m.digests k small (omega (arith, lt)))) (Some (block k new)) refl r.blocks

-- a block that is written, and one that isn't touched
pub part_written : (n off first last : ℕ) (xs old bs new : List ℕ) → old ≡ block n bs → off + length xs ≤ length bs → first ≡ max off (n * 4096) → last ≡ min (off + length xs) (n * 4096 + length old) → first < last
    → new ≡ with_bytes_at (first - n * 4096) (take (last - off - (first - off)) (drop (first - off) xs)) old → new ≡ block n (with_bytes_at off xs bs)
part_written n off first last xs old bs new old_is within first_is last_is some new_is =
    let l = ap length old_is ∙ length-block n bs in
    let at : first - n * 4096 ≡ first - 4096 * n = omega arith in
    let many : last - off - (first - off) ≡ last - first = omega (arith, first_is) in
    let grown : old ≡ with_size (min 4096 (length bs - 4096 * n)) (block n bs) = old_is ∙ resized_same (min 4096 (length bs - 4096 * n)) (block n bs) (length-block n bs) in
    new_is ∙ (λ i. with_bytes_at (at i) (take (many i) (drop (first - off) xs)) (grown i))
    ∙ block_written n off (length bs) (min 4096 (length bs - 4096 * n)) first last xs bs (omega (arith, within)) refl (omega (arith, first_is)) (omega (arith, last_is, l, within)) some

pub part_kept : (n off first last : ℕ) (xs old bs : List ℕ) → old ≡ block n bs → off + length xs ≤ length bs → first ≡ max off (n * 4096) → last ≡ min (off + length xs) (n * 4096 + length old) → last ≤ first
    → old ≡ block n (with_bytes_at off xs bs)
part_kept n off first last xs old bs old_is within first_is last_is none =
    let l = ap length old_is ∙ length-block n bs in
    old_is ∙ resized_same (min 4096 (length bs - 4096 * n)) (block n bs) (length-block n bs)
    ∙ block_grown n off (length bs) (min 4096 (length bs - 4096 * n)) first last xs bs (omega (arith, within)) refl (omega (arith, first_is)) (omega (arith, last_is, l, within)) none
