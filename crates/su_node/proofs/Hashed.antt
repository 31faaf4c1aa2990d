-- The digests of blocks by their numbers, after a change of the blocks.
use Rattle.std.proofs.Common.{◌≡◌, ℕ, ◌+◌, ◌<◌, ◌≤◌, List, [], ◌∷◌, ◌++◌, map, set, take, length, sym, ap, ◌∙◌, arith, subst}
use Rattle.std.specs.Ordering.{nat_cmp}
use Rattle.std.specs.List.{enumerate_from, range_with_len, take-map}
use Rattle.std.specs.FinMap.Entries.{put}
use Rattle.std.proofs.lemmas.List.{map-set, map-append, length-map}
use Rattle.sha2.specs.Sha256.{sha256}
use Rattle.su_hash_tree.specs.Seen.{without}
use Rattle.su_node.specs.Field.{block}
use Rattle.su_node.specs.Digest.{block_item, block_digests}
use Rattle.su_node.specs.Stored.{AreBelow, AreBlocksOf, digests_of, HasNumber}
use Rattle.su_node.proofs.Contents.{count_is}
use Rattle.su_node.proofs.Numbered.{numbered-below, numbered-each, numbered-pop, numbered-push, numbered-set, numbered-there}

abbrev made : List ℕ → List ℕ
made b = sha256 (block_item b)

module _ (blocks : List (List ℕ)) (pairs : List (ℕ × List ℕ)) (is : pairs ≡ digests_of blocks) where
  pub hashed-there : (n : ℕ) → n < length blocks → HasNumber n pairs
  hashed-there n h =
      let l = length-map blocks made in
      subst (HasNumber n) (sym is) (numbered-there 0 n n (map made blocks) (omega arith) (omega (arith, l, h)))

  -- the numbers of so many blocks
  pub hashed-below : (bound : ℕ) → length blocks ≤ bound → AreBelow bound pairs
  hashed-below bound h =
      let l = length-map blocks made in
      subst (AreBelow bound) (sym is) (numbered-below bound 0 (map made blocks) (omega (arith, l, h)))

  -- one block changed
  pub hashed-set : (n : ℕ) (b : List ℕ) → n < length blocks → put nat_cmp n (made b) pairs ≡ digests_of (set blocks n b)
  hashed-set n b h =
      let l = length-map blocks made in
      ap (put nat_cmp n (made b)) is ∙ numbered-set 0 n n (made b) (map made blocks) (omega arith) (omega (arith, l, h)) ∙ ap (enumerate_from 0) (sym (map-set made blocks n b))

  -- a block put behind the last
  pub hashed-push : (n : ℕ) (b : List ℕ) → n ≡ length blocks → put nat_cmp n (made b) pairs ≡ digests_of (blocks ++ b ∷ [])
  hashed-push n b e =
      let l = length-map blocks made in
      ap (put nat_cmp n (made b)) is ∙ numbered-push 0 n (made b) (map made blocks) (omega (arith, l, e)) ∙ ap (enumerate_from 0) (sym (map-append made blocks (b ∷ [])))

  -- the last block taken out
  pub hashed-pop : (n : ℕ) → length blocks ≡ n + 1 → without nat_cmp n pairs ≡ digests_of (take n blocks)
  hashed-pop n e =
      let l = length-map blocks made in
      ap (without nat_cmp n) is ∙ numbered-pop 0 n n (map made blocks) (omega arith) (omega (arith, l, e)) ∙ ap (enumerate_from 0) (take-map made n blocks)

-- the blocks of bytes have the digests of these
pub hashed-bytes : (blocks : List (List ℕ)) (bs : List ℕ) → AreBlocksOf blocks bs → digests_of blocks ≡ block_digests bs
unfolding block_digests
hashed-bytes blocks bs are =
    numbered-each made (λ n. made (block n bs)) [] 0 blocks (λ i h. ap made (are.each i) ∙ ap (λ n. made (block n bs)) (at i))
    ∙ ap (λ n. map (λ k. (k, made (block k bs))) (range_with_len 0 n)) (count_is blocks bs are)
  where
    at : (i : ℕ) → i ≡ 0 + i
    at i = omega arith
