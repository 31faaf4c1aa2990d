-- Blocks that are loaded, and what is read of them.
use Rattle.std.proofs.Common.{◌≡◌, ◌∙◌, ℕ, suc, zero, ◌+◌, ◌-◌, ◌*◌, ◌<◌, ◌≤◌, ◌^◌, Bool, true, false, cond, ◌&&◌, leb, min, max, IsTrue, List, [], ◌∷◌, ◌++◌, length, take, drop, remove, get_or, map, Option, Some, None, refl, sym, ap, subst, arith}
use Rattle.std.specs.List.{range_with_len}
use Rattle.std.specs.Prelude.{IsSome}
use Rattle.std.specs.BTreeMap.{is_at}
use Rattle.std.specs.Ordering.{nat_cmp}
use Rattle.std.specs.FinMap.Entries.{find}
use Rattle.std.proofs.lemmas.Bool.{leb-true, leb-false}
use Rattle.std.proofs.lemmas.Bool.Decides.{nat_tests}
use Rattle.std.proofs.lemmas.List.{length-drop, length-take, take_min, nil_from_length}
use Rattle.sha2.specs.Sha256.{sha256}
use Rattle.su_tree.specs.Number.{number_bits, is_u32}
use Rattle.su_tree.specs.Value.{is_digest}
use Rattle.su_hash_tree.specs.Edits.{value_at}
use Rattle.su_hash_tree.proofs.Compared.{find_by_order, keys_meant}
use Rattle.su_hash_tree.proofs.Standing.{stands_map}
use Rattle.su_part_tree.specs.declared.parts.PartTree.{PartTree}
use Rattle.su_part_tree.specs.Part.{StandsFor, reaches}
use Rattle.su_node.specs.Field.{block}
use Rattle.su_node.specs.Digest.{block_item, block_count, block_digests}
use Rattle.su_node.proofs.Contents.{length-block, read_more}
use Rattle.su_part.specs.declared.blocks.PartBytes.{PartBytes}
use Rattle.su_part.specs.Bytes.{number_sort, StandsBytes, IsBlockOf, HasAllBlocks, loaded_block}
use Rattle.su_part.proofs.Numbers.{same_number, found_at}
use Rattle.std.specs.declared.cmp.Ordering.TheVariants.{Less}
use Rattle.std.specs.List.{AllByRecursion as Each}
use Rattle.std.proofs.lemmas.Bool.{and_from}
use Rattle.su_tree.specs.Bits.{bits_cmp}
use Rattle.su_tree.proofs.Sorted.{Rising, tree_of_rising}
use Rattle.su_tree.proofs.Collisions.{length-sha256}
use Rattle.su_hash_tree.specs.Stands.{IsMap}
use Rattle.su_node.specs.Inode.{Content.Bytes}
use Rattle.su_node.specs.Digest.{content_digest}
use Rattle.su_tree.specs.Laws.Numbers as number

-- ---- the digests of the blocks

pub is_number : (n : ℕ) → n < 2 ^ 32 → IsTrue (is_u32 n)
is_number n h = grind (arith, nat_tests, h)

module _ (bs : List ℕ) where
  abbrev pair : ℕ → ℕ × List ℕ
  pair n = (n, sha256 (block_item (block n bs)))

  found_pair : (n from count : ℕ) → from ≤ n → n < from + count → find nat_cmp n (map pair (range_with_len from count)) ≡ Some (sha256 (block_item (block n bs)))
  found_pair n from zero low high = absurd (omega (arith, low, high))
  found_pair n from (suc count) low high = go (is_at (nat_cmp n) from) refl (λ later. found_pair n (from + 1) count later (omega (arith, high)))
    where
      go : (b : Bool) → is_at (nat_cmp n) from ≡ b → (from + 1 ≤ n → find nat_cmp n (map pair (range_with_len (from + 1) count)) ≡ Some (sha256 (block_item (block n bs))))
          → cond b (Some (sha256 (block_item (block from bs)))) (find nat_cmp n (map pair (range_with_len (from + 1) count))) ≡ Some (sha256 (block_item (block n bs)))
      go true e rest = ap (λ k. Some (sha256 (block_item (block k bs)))) (sym (same_number n from e))
      go false e rest = rest (later n from low e)
        where
          later : (n from : ℕ) → from ≤ n → is_at (nat_cmp n) from ≡ false → from + 1 ≤ n
          later n from low e = grind (arith, nat_tests, low, e)

  -- where the file has a block, its digest is there
  pub digest_there : (n : ℕ) (t : PartTree ℕ (List ℕ)) → StandsFor number_sort t (block_digests bs) → 4096 * n < length bs → IsTrue (is_u32 n) → value_at number_bits n (block_digests bs) ≡ Some (sha256 (block_item (block n bs)))
  unfolding block_digests
  digest_there n t h some is =
      find_by_order is_u32 number_bits nat_cmp number.ordered n (block_digests bs) is (keys_meant is_u32 is_digest (block_digests bs) (stands_map number_sort t.root (block_digests bs) h).good)
      ∙ found_pair n 0 (block_count (length bs)) (omega arith) (omega (arith, some))

  less_is : (a b : ℕ) → a < b → nat_cmp a b ≡ Less
  less_is a b h = grind (arith, nat_tests, h)

  block_above : (k from count : ℕ) → k < from → from + count ≤ 2 ^ 32 → Each (λ f. bits_cmp (number_bits k) (number_bits f.0) ≡ Less) (map pair (range_with_len from count))
  block_above k from zero h w = tt
  block_above k from (suc count) h w = (
    sym (number.ordered k from (is_number k (omega (arith, h, w))) (is_number from (omega (arith, w)))) ∙ less_is k from h,
    block_above k (from + 1) count (omega (arith, h)) (omega (arith, w)),
  )

  blocks_rise : (from count : ℕ) → from + count ≤ 2 ^ 32 → Rising number_bits (map pair (range_with_len from count))
  blocks_rise from zero w = tt
  blocks_rise from (suc count) w = (block_above from (from + 1) count (omega arith) (omega (arith, w)), blocks_rise (from + 1) count (omega (arith, w)))

  digest_is : (n : ℕ) → IsTrue (is_digest (sha256 (block_item (block n bs))))
  digest_is n = grind (arith, nat_tests, length-sha256 (block_item (block n bs)))

  blocks_good : (from count : ℕ) → from + count ≤ 2 ^ 32 → Each (λ e. IsTrue (is_u32 e.0 && is_digest e.1)) (map pair (range_with_len from count))
  blocks_good from zero w = tt
  blocks_good from (suc count) w = (and_from (is_u32 from) (is_digest (sha256 (block_item (block from bs)))) (is_number from (omega (arith, w))) (digest_is from), blocks_good (from + 1) count (omega (arith, w)))

  few : length bs < 2 ^ 32 → 0 + block_count (length bs) ≤ 2 ^ 32
  few h = omega (arith, h)

  pub blocks_map : length bs < 2 ^ 32 → IsMap number_sort (content_digest (Bytes bs)) (block_digests bs)
  unfolding block_digests
  blocks_map h = record {
    tree = tree_of_rising number_bits number.prefix_free _ (blocks_rise 0 (block_count (length bs)) (few h));
    good = blocks_good 0 (block_count (length bs)) (few h);
    is = refl;
  }

-- ---- bytes of which only the digest is known

none_loaded : (bs : List ℕ) (es : List (ℕ × List ℕ)) → es ≡ [] → (n : ℕ) → IsBlockOf bs n (found_at es n)
none_loaded bs es none n = subst (λ fs. IsBlockOf bs n (found_at fs n)) (sym none) tt

pub left_bytes : (b : PartBytes) (bs d : List ℕ) → b.size ≡ length bs → b.size < 2 ^ 32 → d ≡ content_digest (Bytes bs) → ((m : List (ℕ × List ℕ)) → IsMap number_sort d m → StandsFor number_sort b.digests m)
    → b.blocks.entries ≡ [] → StandsBytes b bs
left_bytes b bs d size small is stands none = record {
  size = size;
  digests = stands (block_digests bs) (subst (λ x. IsMap number_sort x (block_digests bs)) (sym is) (blocks_map bs (subst (λ n. n < 2 ^ 32) size small)));
  blocks = none_loaded bs b.blocks.entries none;
}

-- no bytes
pub empty_bytes : (b : PartBytes) → b.size ≡ 0 → StandsFor number_sort b.digests [] → b.blocks.entries ≡ [] → StandsBytes b []
unfolding block_digests
empty_bytes b size stands none = record { size = size; digests = stands; blocks = none_loaded [] b.blocks.entries none }

-- ---- a block that was got

pub block_found : (bs : List ℕ) (n : ℕ) (s block_ : List ℕ) → block_item (block n bs) ≡ s → s ≡ block_item block_ → block_ ≡ block n bs
block_found bs n s block_ e f = let g : 4 ∷ block n bs ≡ 4 ∷ block_ = e ∙ f in cc

pub no_digest : (bs : List ℕ) (n : ℕ) (t : PartTree ℕ (List ℕ)) → StandsFor number_sort t (block_digests bs) → 4096 * n < length bs → n < 2 ^ 32 → None ≡ value_at number_bits n (block_digests bs) → ⊥
no_digest bs n t h some small none = absurd (let z : None ≡ Some (sha256 (block_item (block n bs))) = none ∙ digest_there bs n t h some (is_number n small) in cc)

pub found_block : (bs : List ℕ) (n : ℕ) (o : Option (List ℕ)) → IsSome o → IsBlockOf bs n o → o ≡ Some (block n bs)
found_block bs n None some is = absurd (let z : false ≡ true = some in cc)
found_block bs n (Some x) some is = ap Some is

-- what holds of the numbers so far, and of the next one
pub one_more : (P : ℕ → Type 0) (first k : ℕ) → ((n : ℕ) → first ≤ n → n < k → P n) → P k → (n : ℕ) → first ≤ n → n < k + 1 → P n
one_more P first k all new n low high = go (leb k n) refl
  where
    go : (b : Bool) → leb k n ≡ b → P n
    go true e = let h = leb-true k n e in let same : k ≡ n = omega (arith, h, high) in subst P same new
    go false e = all n low (leb-false k n e)

-- ---- an item of a block

pub item_front : (s : List ℕ) (r : ℕ) → 0 < length s → r ≡ get_or s 0 r → s ≡ r ∷ remove s 0
item_front [] r some is = absurd (omega arith)
item_front (x ∷ s) r some is = ap (λ y. y ∷ s) (sym is)

-- ---- what is read

-- a part of a block, as far as it has it
pub part_taken : (b : List ℕ) (f u k m : ℕ) → m ≡ min u (length b) → k ≡ min f m → take (m - k) (drop k b) ≡ take (u - f) (drop f b)
part_taken b f u k m m_is k_is = go (leb f m) refl
  where
    go : (t : Bool) → leb f m ≡ t → take (m - k) (drop k b) ≡ take (u - f) (drop f b)
    go true e =
        let h = leb-true f m e in
        let l = length-drop f b in
        let same : k ≡ f = omega (arith, k_is, h) in
        let long : m - f ≡ min (u - f) (length (drop f b)) = omega (arith, l, m_is, h) in
        ap (λ j. take (m - j) (drop j b)) same ∙ ap (λ j. take j (drop f b)) long ∙ take_min (u - f) (drop f b)
    go false e =
        let h : m < f = leb-false f m e in
        let l = length-drop f b in
        let none : length (take (m - k) (drop k b)) ≡ 0 = length-take (m - k) (drop k b) ∙ omega (arith, k_is, h) in
        let none' : length (take (u - f) (drop f b)) ≡ 0 = length-take (u - f) (drop f b) ∙ omega (arith, l, m_is, h) in
        nil_from_length _ none ∙ sym (nil_from_length _ none')

-- what is read so far, with the part of one more block
pub read_on : (bs blk was new : List ℕ) (start last n first f u : ℕ) → blk ≡ block n bs → start ≤ last → last ≤ length bs → start < 4096 * (n + 1) → 4096 * n < last → first ≡ n * 4096
    → f ≡ max start first - first → u ≡ min last (first + 4096) - first
    → was ≡ take (min last (4096 * n) - start) (drop start bs) → new ≡ was ++ take (u - f) (drop f blk) → new ≡ take (min last (4096 * (n + 1)) - start) (drop start bs)
read_on bs blk was new start last n first f u blk_is low high reached within first_is f_is u_is was_is new_is =
    let l = ap length blk_is ∙ length-block n bs in
    let end_is : u ≡ min last (n * 4096 + length blk) - n * 4096 = omega (arith, l, high, within, first_is, u_is) in
    new_is ∙ ap (λ xs. xs ++ take (u - f) (drop f blk)) was_is
    ∙ read_more bs blk start last n f u blk_is low high reached within (f_is ∙ ap (λ m. max start m - m) first_is) end_is

-- ---- what stays loaded

pub all_blocks_itself : (b : PartBytes) → HasAllBlocks b b
all_blocks_itself b = record { size = refl; paths = λ n h. h; blocks = λ n h. h; loaded = λ n h. h }

pub all_blocks_on : (b c d : PartBytes) → HasAllBlocks b c → HasAllBlocks c d → HasAllBlocks b d
all_blocks_on b c d h k = record { size = k.size ∙ h.size; paths = λ n x. k.paths n (h.paths n x); blocks = λ n x. k.blocks n (h.blocks n x); loaded = λ n x. k.loaded n (h.loaded n x) }

all_with : (b c : PartBytes) → c.size ≡ b.size → ((n : ℕ) → IsTrue (reaches number_bits n b.digests) → IsTrue (reaches number_bits n c.digests)) → ((n : ℕ) → IsSome (loaded_block b n) → IsSome (loaded_block c n)) → HasAllBlocks b c
all_with b c size keeps more = record {
  size = size;
  paths = keeps;
  blocks = λ n h. record { path = keeps n h.path; there = λ lt. more n (h.there (subst (λ s. 4096 * n < s) size lt)) };
  loaded = more;
}

-- a path is loaded
pub all_with_path : (b c : PartBytes) → c.size ≡ b.size → ((n : ℕ) → IsTrue (reaches number_bits n b.digests) → IsTrue (reaches number_bits n c.digests)) → c.blocks.entries ≡ b.blocks.entries → HasAllBlocks b c
all_with_path b c size keeps same = all_with b c size keeps (λ n some. subst (λ es. IsSome (found_at es n)) (sym same) some)

-- and a block
pub all_with_block : (b c : PartBytes) (k : ℕ) (x : List ℕ) → c.size ≡ b.size → ((n : ℕ) → IsTrue (reaches number_bits n b.digests) → IsTrue (reaches number_bits n c.digests))
    → ((n : ℕ) → loaded_block c n ≡ cond (is_at (nat_cmp k) n) (Some x) (loaded_block b n)) → HasAllBlocks b c
all_with_block b c k x size keeps updates = all_with b c size keeps (λ n some. subst IsSome (sym (updates n)) (go (is_at (nat_cmp k) n) (loaded_block b n) some))
  where
    go : (t : Bool) (o : Option (List ℕ)) → IsSome o → IsSome (cond t (Some x) o)
    go true o some = refl
    go false o some = some
