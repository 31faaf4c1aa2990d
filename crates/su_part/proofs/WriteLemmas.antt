-- Blocks of a file after a write.
use Rattle.std.proofs.Common.{◌≡◌, ◌≢◌, ◌∙◌, ℕ, suc, zero, ◌+◌, ◌-◌, ◌*◌, ◌/◌, ◌<◌, ◌≤◌, ◌^◌, Bool, true, false, cond, leb, min, max, List, [], ◌∷◌, length, take, drop, get_or, map, Option, Some, None, refl, sym, ap, subst, arith, ◌⊎◌, inl, inr}
use Rattle.std.specs.List.{range_with_len}
use Rattle.std.specs.BTreeMap.{is_at}
use Rattle.std.specs.Ordering.{nat_cmp}
use Rattle.std.specs.declared.cmp.Ordering.TheVariants.{Equal, Greater}
use Rattle.std.specs.FinMap.Entries as by
use Rattle.std.proofs.lemmas.Bool.{leb-true, leb-false}
use Rattle.std.proofs.lemmas.Bool.Decides.{nat_tests}
use Rattle.std.proofs.lemmas.List.{length-drop, length-take, get_or-take, get_or-drop}
use Rattle.std.specs.Prelude.{IsSome, IsTrue, Result, Ok, Err, OnErr}
use Rattle.std.specs.Option.{option_map}
use Rattle.std.proofs.lemmas.List.{nil_from_length}
use Rattle.sha2.specs.Sha256.{sha256}
use Rattle.su_tree.specs.Number.{number_bits, is_u32}
use Rattle.su_tree.specs.Value.{is_digest}
use Rattle.su_hash_tree.specs.Edits.{with_value}
use Rattle.su_hash_tree.proofs.Compared.{put_by_order, keys_meant}
use Rattle.su_hash_tree.proofs.Standing.{stands_map}
use Rattle.su_part_tree.specs.Part.{StandsFor, reaches}
use Rattle.su_node.specs.Digest.{block_item, block_count, block_digests}
use Rattle.su_part.specs.declared.blocks.PartBytes.{PartBytes}
use Rattle.su_part.specs.declared.blocks.Ready.{Ready}
use Rattle.su_part.specs.Bytes.{number_sort, StandsBytes, IsBlockOf, IsRewritten, HasBlock, WithPlaces, HasPlaces, AreReady, ready_at, loaded_block}
use Rattle.su_part.proofs.Numbers.{same_number, found_at}
use Rattle.su_part.proofs.BytesLemmas.{is_number}
use Rattle.su_tree.specs.Laws.Numbers as number
use Rattle.su_node.specs.Field.{block}
use Rattle.su_node.specs.InodeChange.{with_size, with_bytes_at}
use Rattle.su_node.proofs.Contents.{block_is, length-block, get_or-block, length-with_size, get_or-with_size, length-with_bytes_at, get_or-written_in, get_or-written_before, get_or-written_after}

-- ---- blocks that a write leaves alone

-- one that lies before it and is full
pub same_before : (n off : ℕ) (xs bs : List ℕ) → 4096 * (n + 1) ≤ off → 4096 * (n + 1) ≤ length bs → block n (with_bytes_at off xs bs) ≡ block n bs
same_before n off xs bs before there =
    let new = length-with_bytes_at off xs bs in
    let l = length-block n (with_bytes_at off xs bs) in
    let long : length (block n (with_bytes_at off xs bs)) ≡ 4096 = omega (arith, l, new, there) in
    block_is n bs (block n (with_bytes_at off xs bs)) (long ∙ omega (arith, there))
    (λ i lt. get_or-block n (with_bytes_at off xs bs) i (omega (arith, long, lt)) ∙ get_or-written_before off xs bs (4096 * n + i) (omega (arith, long, lt, before)))

-- one that lies behind it
pub same_behind : (n off : ℕ) (xs bs : List ℕ) → off + length xs ≤ 4096 * n → block n (with_bytes_at off xs bs) ≡ block n bs
same_behind n off xs bs behind =
    let new = length-with_bytes_at off xs bs in
    let l = length-block n (with_bytes_at off xs bs) in
    block_is n bs (block n (with_bytes_at off xs bs)) (l ∙ omega (arith, new, behind))
    (λ i lt. get_or-block n (with_bytes_at off xs bs) i (omega (arith, l, lt)) ∙ get_or-written_after off xs bs (4096 * n + i) (omega (arith, behind)))

-- ---- a block that is written

module _ (n off size full first last : ℕ) (xs bs : List ℕ) (size_is : size ≡ max (off + length xs) (length bs)) (full_is : full ≡ min 4096 (size - 4096 * n))
    (first_is : first ≡ max off (4096 * n)) (last_is : last ≡ min (off + length xs) (4096 * n + 4096)) where
  abbrev grown : List ℕ
  grown = with_size full (block n bs)

  new_long : length (with_bytes_at off xs bs) ≡ size
  new_long = length-with_bytes_at off xs bs ∙ sym size_is

  in_grown : (i : ℕ) → i < full → get_or grown i 0 ≡ get_or bs (4096 * n + i) 0
  in_grown i lt = get_or-with_size full (block n bs) i lt ∙ get_or-block n bs i (omega (arith, full_is, lt))

  -- a byte of it that is not written
  kept : (i : ℕ) → i < full → (b : Bool) → leb off (4096 * n + i) ≡ b → (4096 * n + i < first) ⊎ (last ≤ 4096 * n + i) → get_or grown i 0 ≡ get_or (with_bytes_at off xs bs) (4096 * n + i) 0
  kept i lt false e where_ = let h : 4096 * n + i < off = leb-false off (4096 * n + i) e in in_grown i lt ∙ sym (get_or-written_before off xs bs (4096 * n + i) h)
  kept i lt true e (inl before) = let h : off ≤ 4096 * n + i = leb-true off (4096 * n + i) e in absurd (omega (arith, first_is, before, h))
  kept i lt true e (inr behind) =
      let h : off + length xs ≤ 4096 * n + i = omega (arith, last_is, full_is, behind, lt) in
      in_grown i lt ∙ sym (get_or-written_after off xs bs (4096 * n + i) h)

  -- none of the bytes lie in it
  pub block_grown : last ≤ first → grown ≡ block n (with_bytes_at off xs bs)
  block_grown none =
      let l = length-with_size full (block n bs) in
      block_is n (with_bytes_at off xs bs) grown (l ∙ full_is ∙ ap (λ m. min 4096 (m - 4096 * n)) (sym new_long))
      (λ i lt. kept i (omega (arith, l, lt)) (leb off (4096 * n + i)) refl (side i (leb first (4096 * n + i)) refl))
    where
      side : (i : ℕ) (b : Bool) → leb first (4096 * n + i) ≡ b → (4096 * n + i < first) ⊎ (last ≤ 4096 * n + i)
      side i false e = inl (leb-false first (4096 * n + i) e)
      side i true e = let h = leb-true first (4096 * n + i) e in inr (omega (arith, none, h))

  abbrev piece : List ℕ
  piece = take (last - first) (drop (first - off) xs)

  -- some of them do
  pub block_written : first < last → with_bytes_at (first - 4096 * n) piece grown ≡ block n (with_bytes_at off xs bs)
  block_written some =
      block_is n (with_bytes_at off xs bs) (with_bytes_at (first - 4096 * n) piece grown) (long ∙ full_is ∙ ap (λ m. min 4096 (m - 4096 * n)) (sym new_long))
      (λ i lt. each i (omega (arith, long, lt)) (leb first (4096 * n + i)) refl (leb last (4096 * n + i)) refl)
    where
      piece_long : length piece ≡ last - first
      piece_long = let l = length-drop (first - off) xs in length-take (last - first) (drop (first - off) xs) ∙ omega (arith, l, first_is, last_is)

      long : length (with_bytes_at (first - 4096 * n) piece grown) ≡ full
      long =
          let l = length-with_size full (block n bs) in
          length-with_bytes_at (first - 4096 * n) piece grown ∙ omega (arith, l, piece_long, first_is, last_is, full_is, size_is, some)

      each : (i : ℕ) → i < full → (p : Bool) → leb first (4096 * n + i) ≡ p → (q : Bool) → leb last (4096 * n + i) ≡ q
          → get_or (with_bytes_at (first - 4096 * n) piece grown) i 0 ≡ get_or (with_bytes_at off xs bs) (4096 * n + i) 0
      each i lt false e q e' =
          let h : 4096 * n + i < first = leb-false first (4096 * n + i) e in
          get_or-written_before (first - 4096 * n) piece grown i (omega (arith, first_is, h)) ∙ kept i lt (leb off (4096 * n + i)) refl (inl h)
      each i lt true e true e' =
          let h : last ≤ 4096 * n + i = leb-true last (4096 * n + i) e' in
          get_or-written_after (first - 4096 * n) piece grown i (omega (arith, first_is, piece_long, h, some)) ∙ kept i lt (leb off (4096 * n + i)) refl (inr h)
      each i lt true e false e' =
          let h : first ≤ 4096 * n + i = leb-true first (4096 * n + i) e in
          let k : 4096 * n + i < last = leb-false last (4096 * n + i) e' in
          let at : first - off + (i - (first - 4096 * n)) ≡ 4096 * n + i - off = omega (arith, first_is, h) in
          get_or-written_in (first - 4096 * n) piece grown i (omega (arith, first_is, h)) (omega (arith, first_is, piece_long, k, some))
          ∙ get_or-take (last - first) (drop (first - off) xs) (i - (first - 4096 * n)) 0 (omega (arith, first_is, h, k))
          ∙ get_or-drop (first - off) xs (i - (first - 4096 * n)) 0 ∙ ap (λ j. get_or xs j 0) at
          ∙ sym (get_or-written_in off xs bs (4096 * n + i) (omega (arith, first_is, h)) (omega (arith, last_is, k)))

-- ---- values at the numbers from one on

abbrev pub numbered : {X : Type 0} → (ℕ → X) → ℕ → ℕ → List (ℕ × X)
numbered f from count = map (λ n. (n, f n)) (range_with_len from count)

pub numbered_alike : {X : Type 0} (f g : ℕ → X) (from count : ℕ) → ((n : ℕ) → from ≤ n → f n ≡ g n) → numbered f from count ≡ numbered g from count
numbered_alike f g from zero same = refl
numbered_alike f g from (suc count) same = λ i. (from, same from (omega arith) i) ∷ numbered_alike f g (from + 1) count (λ n low. same n (omega (arith, low))) i

order_is : (k n : ℕ) (b : Bool) → is_at (nat_cmp k) n ≡ b → n ≤ k → nat_cmp k n ≡ cond b Equal Greater
order_is k n true e low = grind (arith, nat_tests, e)
order_is k n false e low = grind (arith, nat_tests, e, low)

-- one of them is put, or the next one
pub numbered_put : {X : Type 0} (f g : ℕ → X) (k : ℕ) (x : X) (from count c : ℕ) → g k ≡ x → ((n : ℕ) → n ≢ k → f n ≡ g n) → from ≤ k → k ≤ from + count → c ≡ max count (k + 1 - from)
    → by.put nat_cmp k x (numbered f from count) ≡ numbered g from c
numbered_put f g k x from zero c here same low high c_is =
    let at : k ≡ from = omega (arith, low, high) in
    let one : c ≡ 1 = omega (arith, c_is, at) in
    (λ i. (at i, (sym here ∙ ap g at) i) ∷ []) ∙ ap (numbered g from) (sym one)
numbered_put f g k x from (suc count) c here same low high c_is =
    go (is_at (nat_cmp k) from) refl (λ above. numbered_put f g k x (from + 1) count (max count (k + 1 - (from + 1))) here same above (omega (arith, high)) refl)
  where
    go : (b : Bool) → is_at (nat_cmp k) from ≡ b → (from + 1 ≤ k → by.put nat_cmp k x (numbered f (from + 1) count) ≡ numbered g (from + 1) (max count (k + 1 - (from + 1))))
        → by.put nat_cmp k x (numbered f from (suc count)) ≡ numbered g from c
    go true e rest =
        let at : k ≡ from = grind (arith, nat_tests, e) in
        let all : c ≡ suc count = omega (arith, c_is, at) in
        ap (λ o. by.by_order o ((k, x) ∷ numbered f from (suc count)) ((from, x) ∷ numbered f (from + 1) count) ((from, f from) ∷ by.put nat_cmp k x (numbered f (from + 1) count))) (order_is k from true e low)
        ∙ (λ i. (from, (sym here ∙ ap g at) i) ∷ numbered_alike f g (from + 1) count (λ n h. same n (λ s. omega (arith, h, s, at))) i)
        ∙ ap (numbered g from) (sym all)
    go false e rest =
        let above : from + 1 ≤ k = grind (arith, nat_tests, e, low) in
        let more : c ≡ suc (max count (k + 1 - (from + 1))) = omega (arith, c_is, above) in
        ap (λ o. by.by_order o ((k, x) ∷ numbered f from (suc count)) ((from, x) ∷ numbered f (from + 1) count) ((from, f from) ∷ by.put nat_cmp k x (numbered f (from + 1) count))) (order_is k from false e low)
        ∙ (λ i. (from, same from (λ s. omega (arith, above, s)) i) ∷ rest above i)
        ∙ ap (numbered g from) (sym more)

-- ---- a file of which the blocks before number k are written

abbrev pub mixed : List ℕ → List ℕ → ℕ → ℕ → List ℕ
mixed bs new k n = cond (leb k n) (block n bs) (block n new)

abbrev pub mixed_digest : List ℕ → List ℕ → ℕ → ℕ → List ℕ
mixed_digest bs new k n = sha256 (block_item (mixed bs new k n))

-- the part c stands for that file but for its size
pub record Midway (bs new : List ℕ) (k : ℕ) (c : PartBytes) : Type 0 where
  pub size : c.size ≡ length bs
  pub digests : StandsFor number_sort c.digests (numbered (mixed_digest bs new k) 0 (max (block_count (length bs)) k))
  pub done : (n : ℕ) → n < k → IsBlockOf new n (loaded_block c n)
  pub rest : (n : ℕ) → k ≤ n → IsBlockOf bs n (loaded_block c n)

mixed_done : (bs new : List ℕ) (k n : ℕ) → n < k → mixed bs new k n ≡ block n new
mixed_done bs new k n lt = go (leb k n) refl
  where
    go : (b : Bool) → leb k n ≡ b → cond b (block n bs) (block n new) ≡ block n new
    go true e = let h = leb-true k n e in absurd (omega (arith, h, lt))
    go false e = refl

mixed_rest : (bs new : List ℕ) (k n : ℕ) → k ≤ n → mixed bs new k n ≡ block n bs
mixed_rest bs new k n le = go (leb k n) refl
  where
    go : (b : Bool) → leb k n ≡ b → cond b (block n bs) (block n new) ≡ block n bs
    go true e = refl
    go false e = let h = leb-false k n e in absurd (omega (arith, h, le))

same_block : (bs new : List ℕ) (n : ℕ) (o : Option (List ℕ)) → block n new ≡ block n bs → IsBlockOf bs n o → IsBlockOf new n o
same_block bs new n None e is = tt
same_block bs new n (Some x) e is = is ∙ sym e

-- nothing is written yet
pub begun : (b : PartBytes) (off : ℕ) (xs bs : List ℕ) (k : ℕ) → StandsBytes b bs → k ≡ min off b.size / 4096 → Midway bs (with_bytes_at off xs bs) k b
unfolding block_digests
begun b off xs bs k h k_is = record {
  size = h.size;
  digests = subst (StandsFor number_sort b.digests)
      (numbered_alike (λ n. sha256 (block_item (block n bs))) (mixed_digest bs (with_bytes_at off xs bs) k) 0 (block_count (length bs)) (λ n low. ap (λ x. sha256 (block_item x)) (sym (alike n (leb k n) refl)))
      ∙ ap (numbered (mixed_digest bs (with_bytes_at off xs bs) k) 0) count) h.digests;
  done = λ n lt. same_block bs (with_bytes_at off xs bs) n (loaded_block b n) (before n lt) (h.blocks n);
  rest = λ n le. h.blocks n;
}
  where
    count : block_count (length bs) ≡ max (block_count (length bs)) k
    count = omega (arith, k_is, h.size)

    before : (n : ℕ) → n < k → block n (with_bytes_at off xs bs) ≡ block n bs
    before n lt = same_before n off xs bs (omega (arith, k_is, lt)) (omega (arith, k_is, lt, h.size))

    alike : (n : ℕ) (t : Bool) → leb k n ≡ t → mixed bs (with_bytes_at off xs bs) k n ≡ block n bs
    alike n true e = mixed_rest bs (with_bytes_at off xs bs) k n (leb-true k n e)
    alike n false e = let lt = leb-false k n e in mixed_done bs (with_bytes_at off xs bs) k n lt ∙ before n lt

-- one block more, which may be loaded or not
pub stepped_by : (bs new : List ℕ) (k : ℕ) (c d : PartBytes) → Midway bs new k c → k < 2 ^ 32 → d.size ≡ c.size
    → StandsFor number_sort d.digests (with_value number_bits k (sha256 (block_item (block k new))) (numbered (mixed_digest bs new k) 0 (max (block_count (length bs)) k)))
    → (o : Option (List ℕ)) → IsBlockOf new k o → ((n : ℕ) → loaded_block d n ≡ cond (is_at (nat_cmp k) n) o (loaded_block c n)) → Midway bs new (k + 1) d
stepped_by bs new k c d m small size digests o here blocks = record {
  size = size ∙ m.size;
  digests = subst (StandsFor number_sort d.digests) put digests;
  done = λ n lt. subst (IsBlockOf new n) (sym (blocks n)) (there n lt (is_at (nat_cmp k) n) refl);
  rest = λ n le. subst (IsBlockOf bs n) (sym (blocks n ∙ ap (λ t. cond t o (loaded_block c n)) (apart n le))) (m.rest n (omega (arith, le)));
}
  where
    was : List (ℕ × List ℕ)
    was = numbered (mixed_digest bs new k) 0 (max (block_count (length bs)) k)

    apart : (n : ℕ) → k + 1 ≤ n → is_at (nat_cmp k) n ≡ false
    apart n le = grind (arith, nat_tests, le)

    same : (n : ℕ) → n ≢ k → mixed_digest bs new k n ≡ mixed_digest bs new (k + 1) n
    same n other = ap (λ x. sha256 (block_item x)) (go (leb k n) refl)
      where
        go : (t : Bool) → leb k n ≡ t → mixed bs new k n ≡ mixed bs new (k + 1) n
        go true e = let h = leb-true k n e in mixed_rest bs new k n h ∙ sym (mixed_rest bs new (k + 1) n (omega (arith, h, other)))
        go false e = let h = leb-false k n e in mixed_done bs new k n h ∙ sym (mixed_done bs new (k + 1) n (omega (arith, h)))

    put : with_value number_bits k (sha256 (block_item (block k new))) was ≡ numbered (mixed_digest bs new (k + 1)) 0 (max (block_count (length bs)) (k + 1))
    put =
        put_by_order is_u32 number_bits nat_cmp number.ordered k (sha256 (block_item (block k new))) was (is_number k small) (keys_meant is_u32 is_digest was (stands_map number_sort c.digests.root was m.digests).good)
        ∙ numbered_put (mixed_digest bs new k) (mixed_digest bs new (k + 1)) k (sha256 (block_item (block k new))) 0 (max (block_count (length bs)) k) (max (block_count (length bs)) (k + 1))
        (ap (λ x. sha256 (block_item x)) (mixed_done bs new (k + 1) k (omega arith))) same (omega arith) (omega arith) (omega arith)

    there : (n : ℕ) → n < k + 1 → (t : Bool) → is_at (nat_cmp k) n ≡ t → IsBlockOf new n (cond t o (loaded_block c n))
    there n lt true e = subst (λ j. IsBlockOf new j o) (same_number k n e) here
    there n lt false e = m.done n (grind (arith, nat_tests, e, lt))

pub stepped : (bs new : List ℕ) (k : ℕ) (c d : PartBytes) → Midway bs new k c → IsRewritten k (block k new) c d → k < 2 ^ 32 → Midway bs new (k + 1) d
stepped bs new k c d m r small = stepped_by bs new k c d m small r.size (r.digests (numbered (mixed_digest bs new k) 0 (max (block_count (length bs)) k)) m.digests) (Some (block k new)) refl r.blocks

-- blocks that are ready are put, and each has a place
pub record Writing (bs new : List ℕ) (k until : ℕ) (c : PartBytes) (es : List (ℕ × Ready)) : Type 0 where
  pub midway : Midway bs new k c
  pub places : HasPlaces k until c
  pub ready : AreReady k until new es

-- one more is put
pub written_on : (bs new : List ℕ) (k until : ℕ) (c d : PartBytes) (es fs : List (ℕ × Ready)) → Writing bs new k until c es → k < until → k < 2 ^ 32
    → ((x : List ℕ) → IsSome (loaded_block c k) → ready_at es k ≡ Some x → IsRewritten k x c d) → ((n : ℕ) → is_at (nat_cmp k) n ≡ false → ready_at fs n ≡ ready_at es n) → Writing bs new (k + 1) until d fs
written_on bs new k until c d es fs w lt small put others = record {
  midway = stepped bs new k c d w.midway r small;
  places = λ n low high. subst IsSome (sym (r.blocks n)) (kept (is_at (nat_cmp k) n) (loaded_block c n) (w.places n (omega (arith, low)) high));
  ready = λ n low high. others n (apart n low) ∙ w.ready n (omega (arith, low)) high;
}
  where
    r : IsRewritten k (block k new) c d
    r = put (block k new) (w.places k (omega arith) lt) (w.ready k (omega arith) lt)

    kept : (t : Bool) (o : Option (List ℕ)) → IsSome o → IsSome (cond t (Some (block k new)) o)
    kept true o some = refl
    kept false o some = some

    apart : (n : ℕ) → k + 1 ≤ n → is_at (nat_cmp k) n ≡ false
    apart n le = grind (arith, nat_tests, le)

-- all is written
pub finished : (c : PartBytes) (off : ℕ) (xs bs : List ℕ) (k size : ℕ) → Midway bs (with_bytes_at off xs bs) k c → k ≡ block_count (off + length xs) → size ≡ max (off + length xs) (length bs)
    → StandsBytes (record c { size = size }) (with_bytes_at off xs bs)
unfolding block_digests
finished c off xs bs k size m k_is size_is = record {
  size = size_is ∙ sym long;
  digests = subst (StandsFor number_sort c.digests)
      (numbered_alike (mixed_digest bs (with_bytes_at off xs bs) k) (λ n. sha256 (block_item (block n (with_bytes_at off xs bs)))) 0 (max (block_count (length bs)) k) (λ n low. ap (λ x. sha256 (block_item x)) (all n (leb k n) refl))
      ∙ ap (numbered (λ n. sha256 (block_item (block n (with_bytes_at off xs bs)))) 0) count) m.digests;
  blocks = λ n. each n (leb k n) refl;
}
  where
    long : length (with_bytes_at off xs bs) ≡ max (off + length xs) (length bs)
    long = length-with_bytes_at off xs bs

    count : max (block_count (length bs)) k ≡ block_count (length (with_bytes_at off xs bs))
    count = omega (arith, long, k_is)

    behind : (n : ℕ) → k ≤ n → block n (with_bytes_at off xs bs) ≡ block n bs
    behind n le = same_behind n off xs bs (omega (arith, k_is, le))

    all : (n : ℕ) (t : Bool) → leb k n ≡ t → mixed bs (with_bytes_at off xs bs) k n ≡ block n (with_bytes_at off xs bs)
    all n true e = let le = leb-true k n e in mixed_rest bs (with_bytes_at off xs bs) k n le ∙ sym (behind n le)
    all n false e = mixed_done bs (with_bytes_at off xs bs) k n (leb-false k n e)

    each : (n : ℕ) (t : Bool) → leb k n ≡ t → IsBlockOf (with_bytes_at off xs bs) n (loaded_block c n)
    each n true e =
        let le = leb-true k n e in
        same_block bs (with_bytes_at off xs bs) n (loaded_block c n) (behind n le) (m.rest n le)
    each n false e = m.done n (leb-false k n e)

-- ---- places for blocks that are new

pub places_itself : (b : PartBytes) → WithPlaces b b
places_itself b = record { size = refl; digests = refl; blocks = λ n. inl refl }

pub places_on : (b c d : PartBytes) → WithPlaces b c → WithPlaces c d → WithPlaces b d
places_on b c d h k = record {
  size = k.size ∙ h.size;
  digests = k.digests ∙ h.digests;
  blocks = λ n. elim (k.blocks n) [ inl e ↦ elim (h.blocks n) [ inl f ↦ inl (e ∙ f) | inr f ↦ inr (e ∙ f.0, f.1) ] | inr e ↦ inr (e.0, omega (arith, e.1, h.size)) ];
}

-- they change nothing
pub places_stand : (b c : PartBytes) (bs : List ℕ) → WithPlaces b c → StandsBytes b bs → StandsBytes c bs
places_stand b c bs w h = record {
  size = w.size ∙ h.size;
  digests = subst (λ t. StandsFor number_sort t (block_digests bs)) (sym w.digests) h.digests;
  blocks = λ n. elim (w.blocks n) [ inl e ↦ subst (IsBlockOf bs n) (sym e) (h.blocks n) | inr e ↦ subst (IsBlockOf bs n) (sym e.0) (sym (nothing n (omega (arith, e.1, h.size)))) ];
}
  where
    nothing : (n : ℕ) → length bs ≤ 4096 * n → block n bs ≡ []
    nothing n past = nil_from_length (block n bs) (length-block n bs ∙ omega (arith, past))

pub places_some : (b c : PartBytes) → WithPlaces b c → (n : ℕ) → IsSome (loaded_block b n) → IsSome (loaded_block c n)
places_some b c w n some = elim (w.blocks n) [ inl e ↦ subst IsSome (sym e) some | inr e ↦ subst IsSome (sym e.0) refl ]

pub places_block : (b c : PartBytes) → WithPlaces b c → (n : ℕ) → HasBlock n b → HasBlock n c
places_block b c w n h = record {
  path = subst (λ t. IsTrue (reaches number_bits n t)) (sym w.digests) h.path;
  there = λ lt. places_some b c w n (h.there (subst (λ s. 4096 * n < s) w.size lt));
}

pub places_more : (b c : PartBytes) → WithPlaces b c → (first end_ : ℕ) → HasPlaces first end_ b → HasPlaces first end_ c
places_more b c w first end_ h n low high = places_some b c w n (h n low high)

-- one block more is ready
pub ready_more : (first k : ℕ) (new : List ℕ) (es fs : List (ℕ × Ready)) (r : Ready) → AreReady first k new es → r.block ≡ block k new
    → ((n : ℕ) → found_at fs n ≡ cond (is_at (nat_cmp k) n) (Some r) (found_at es n)) → AreReady first (k + 1) new fs
ready_more first k new es fs r was is updates n low high = ap (option_map (λ (x : Ready). x.block)) (updates n) ∙ go (is_at (nat_cmp k) n) refl
  where
    below : is_at (nat_cmp k) n ≡ false → n < k
    below e = grind (arith, nat_tests, e, high)

    go : (t : Bool) → is_at (nat_cmp k) n ≡ t → option_map (λ (x : Ready). x.block) (cond t (Some r) (found_at es n)) ≡ Some (block n new)
    go true e = ap Some (is ∙ ap (λ j. block j new) (same_number k n e))
    go false e = was n low (below e)

pub on_err : {X E A : Type 0} (r : Result X E) → A → OnErr r A
on_err (Ok x) a = tt
on_err (Err e) a = a
