-- The lemmas that proofs of other crates may cite: what the blocks are once they are put back.
use Rattle.std.proofs.Common.{◌≡◌, ◌∙◌, ℕ, suc, zero, ◌+◌, ◌-◌, ◌*◌, ◌<◌, ◌≤◌, min, List, ◌∷◌, length, get_or, map, refl, sym, ap, arith, ◌⊎◌, inl, inr}
use Rattle.std.specs.List.{range_with_len}
use Rattle.sha2.specs.Sha256.{sha256}
use Rattle.su_node.specs.Digest.{block_item, block_count}
use Rattle.su_node.specs.Field.{block}
use Rattle.su_node.specs.InodeChange.{with_bytes_at}
use Rattle.su_node.proofs.Contents.{block_is, get_or-block, get_or-written_in, length-block, length-with_bytes_at}
use Rattle.su_left_blocks.specs.Left.{digests_of}

-- values at as many numbers from one on and from another one on
alike : {X : Type 0} (f g : ℕ → X) (a b count : ℕ) → ((i : ℕ) → i < count → f (a + i) ≡ g (b + i)) → map f (range_with_len a count) ≡ map g (range_with_len b count)
alike f g a b zero same = refl
alike f g a b (suc count) same =
    let first : f a ≡ g b = ap f (omega arith) ∙ same 0 (omega arith) ∙ ap g (omega arith) in
    ap (λ x. x ∷ map f (range_with_len (a + 1) count)) first
    ∙ ap (λ xs. g b ∷ xs) (alike f g (a + 1) (b + 1) count (λ i lt. ap f (omega arith) ∙ same (i + 1) (omega (arith, lt)) ∙ ap g (omega arith)))

-- The bytes xs are written from block number `first` on, within the file bs. They end with a block,
-- or with the file.
module _ (first : ℕ) (xs bs : List ℕ) (within : 4096 * first + length xs ≤ length bs) (ends : (4096 * block_count (length xs) ≡ length xs) ⊎ (4096 * first + length xs ≡ length bs)) where
  -- each of their blocks is one of the file then
  block_there : (i : ℕ) → i < block_count (length xs) → block (0 + i) xs ≡ block (first + i) (with_bytes_at (4096 * first) xs bs)
  block_there i lt =
      ap (λ n. block n xs) (omega arith)
      ∙ block_is (first + i) (with_bytes_at (4096 * first) xs bs) (block i xs) (length-block i xs ∙ size ends)
      (λ j low.
      let at : 4096 * (first + i) + j - 4096 * first ≡ 4096 * i + j = omega arith in
      get_or-block i xs j (omega (arith, low, k)) ∙ ap (λ n. get_or xs n 0) (sym at)
      ∙ sym (get_or-written_in (4096 * first) xs bs (4096 * (first + i) + j) (omega arith) (omega (arith, low, k))))
    where
      long : length (with_bytes_at (4096 * first) xs bs) ≡ length bs
      long = length-with_bytes_at (4096 * first) xs bs ∙ omega (arith, within)

      k : length (block i xs) ≡ min 4096 (length xs - 4096 * i)
      k = length-block i xs

      size : (4096 * block_count (length xs) ≡ length xs) ⊎ (4096 * first + length xs ≡ length bs) → min 4096 (length xs - 4096 * i) ≡ min 4096 (length (with_bytes_at (4096 * first) xs bs) - 4096 * (first + i))
      size (inl whole) = omega (arith, long, whole, within, lt)
      size (inr last) = omega (arith, long, last)

  pub digests_there : digests_of xs ≡ map (λ n. sha256 (block_item (block n (with_bytes_at (4096 * first) xs bs)))) (range_with_len first (block_count (length xs)))
  digests_there =
      alike (λ n. sha256 (block_item (block n xs))) (λ n. sha256 (block_item (block n (with_bytes_at (4096 * first) xs bs)))) 0 first (block_count (length xs))
      (λ i lt. ap (λ x. sha256 (block_item x)) (block_there i lt))
