-- Values by their numbers, one after another.
use Rattle.std.proofs.Common.{◌≡◌, ℕ, zero, suc, ◌+◌, ◌-◌, ◌/◌, ◌%◌, ◌^◌, ◌<◌, ◌≤◌, Bool, false, eqb, replicate, List, [], ◌∷◌, ◌++◌, map, set, take, length, get_or, sym, refl, ap, ◌∙◌, arith}
use Rattle.std.specs.declared.cmp.Ordering.TheVariants.{Equal, Greater}
use Rattle.std.specs.Ordering.{nat_cmp}
use Rattle.std.specs.Prelude.{IsSome}
use Rattle.std.specs.Cmp.{nat_cmp_is}
use Rattle.std.specs.List.{enumerate_from, range_with_len, AllByRecursion}
use Rattle.std.specs.FinMap.Entries.{find, put}
use Rattle.std.proofs.lemmas.List.{length-replicate}
use Rattle.std.proofs.Math.Nat.{div-eq_of_lt}
use Rattle.std.proofs.Math.Pow.{pow_mono}
use Rattle.su_tree.specs.Laws.Numbers.{length-low_bits}
use Rattle.su_tree.specs.Number.{low_bits, number_bits}
use Rattle.su_tree.specs.Parting.{Begins}
use Rattle.su_hash_tree.specs.Edits.{CostsPath}
use Rattle.su_hash_tree.specs.Seen.{without}
use Rattle.su_node.specs.Stored.{AreBelow}

same : (q k : ℕ) → q ≡ k → nat_cmp q k ≡ Equal
same q k e = sym (nat_cmp_is q k Equal e)

more : (q k : ℕ) → k < q → nat_cmp q k ≡ Greater
more q k h = sym (nat_cmp_is q k Greater h)

module _ {X : Type 0} where
  -- a number that is there is found
  pub numbered-there : (k q n : ℕ) (xs : List X) → q ≡ k + n → n < length xs → IsSome (find nat_cmp q (enumerate_from k xs))
  numbered-there k q n [] e h = absurd (omega arith)
  numbered-there k q zero (x ∷ xs) e h = rw (same q k (omega arith)) refl
  numbered-there k q (suc n) (x ∷ xs) e h = rw (more q k (omega arith)) (numbered-there (k + 1) q n xs (omega arith) (omega arith))

  -- a value put at a number that is there
  pub numbered-set : (k q n : ℕ) (v : X) (xs : List X) → q ≡ k + n → n < length xs → put nat_cmp q v (enumerate_from k xs) ≡ enumerate_from k (set xs n v)
  numbered-set k q n v [] e h = absurd (omega arith)
  numbered-set k q zero v (x ∷ xs) e h = rw (same q k (omega arith)) refl
  numbered-set k q (suc n) v (x ∷ xs) e h = rw (more q k (omega arith)) (ap (λ es. (k, x) ∷ es) (numbered-set (k + 1) q n v xs (omega arith) (omega arith)))

  -- a value put at the number behind the last
  pub numbered-push : (k q : ℕ) (v : X) (xs : List X) → q ≡ k + length xs → put nat_cmp q v (enumerate_from k xs) ≡ enumerate_from k (xs ++ v ∷ [])
  numbered-push k q v [] e = let at : q ≡ k = omega arith in ap (λ n. (n, v) ∷ []) at
  numbered-push k q v (x ∷ xs) e = rw (more q k (omega arith)) (ap (λ es. (k, x) ∷ es) (numbered-push (k + 1) q v xs (omega arith)))

  -- the last number taken out
  pub numbered-pop : (k q n : ℕ) (xs : List X) → q ≡ k + n → length xs ≡ n + 1 → without nat_cmp q (enumerate_from k xs) ≡ enumerate_from k (take n xs)
  numbered-pop k q n [] e h = absurd (omega arith)
  numbered-pop k q zero (x ∷ []) e h = rw (same q k (omega arith)) refl
  numbered-pop k q zero (x ∷ y ∷ xs) e h = absurd (omega arith)
  numbered-pop k q (suc n) (x ∷ xs) e h = rw (more q k (omega arith)) (ap (λ es. (k, x) ∷ es) (numbered-pop (k + 1) q n xs (omega arith) (omega arith)))

-- numbers one after another are below a bound that they don't reach
pub numbered-below : (bound k : ℕ) (xs : List (List ℕ)) → k + length xs ≤ bound → AreBelow bound (enumerate_from k xs)
numbered-below bound k [] h = tt
numbered-below bound k (x ∷ xs) h = (omega arith, numbered-below bound (k + 1) xs (omega arith))

-- the same values, each told by its number
pub numbered-each : {X Y : Type 0} (d : X → Y) (f : ℕ → Y) (none : X) (k : ℕ) (xs : List X) → ((i : ℕ) → i < length xs → d (get_or xs i none) ≡ f (k + i))
    → enumerate_from k (map d xs) ≡ map (λ n. (n, f n)) (range_with_len k (length xs))
numbered-each d f none k [] each = refl
numbered-each d f none k (x ∷ xs) each =
    let first = each 0 (omega arith) ∙ ap f (at_0 k) in
    (λ i. (k, first i) ∷ numbered-each d f none (k + 1) xs (λ j h. each (suc j) (omega arith) ∙ ap f (at_suc k j)) i)
  where
    at_0 : (n : ℕ) → n + 0 ≡ n
    at_0 n = omega arith

    at_suc : (n j : ℕ) → n + suc j ≡ n + 1 + j
    at_suc n j = omega arith

-- ---- small numbers as keys

small_bit : (m k x : ℕ) → x < 2 ^ k → eqb (x / 2 ^ (m + k) % 2) 1 ≡ false
small_bit m k x h =
    let wide = pow_mono {i = k} {j = m + k} (omega arith) in
    ap (λ d. eqb (d % 2) 1) (div-eq_of_lt {n = x} {m = 2 ^ (m + k)} (omega (arith, h, wide)))

-- a number begins with zeros, one for each bit that it doesn't need
small_zeros : (m k x : ℕ) → x < 2 ^ k → low_bits (m + k) x ≡ replicate m false ++ low_bits k x
unfolding low_bits
small_zeros zero k x h = let e : 0 + k ≡ k = omega arith in ap (λ n. low_bits n x) e
small_zeros (suc m) k x h = let e : suc m + k ≡ suc (m + k) = omega arith in ap (λ n. low_bits n x) e ∙ (λ i. small_bit m k x h i ∷ small_zeros m k x h i)

small_begins : (k x : ℕ) → k ≤ 32 → x < 2 ^ k → Begins (replicate (32 - k) false) (number_bits x)
small_begins k x h less =
    let e : 32 ≡ 32 - k + k = omega arith in
    record { rest = low_bits k x; is = ap (λ n. low_bits n x) e ∙ small_zeros (32 - k) k x less }

all_begin : (k : ℕ) (pairs : List (ℕ × List ℕ)) → k ≤ 32 → AreBelow (2 ^ k) pairs → AllByRecursion (λ e. Begins (replicate (32 - k) false) (number_bits e.0)) pairs
all_begin k [] h a = tt
all_begin k (e ∷ es) h a = (small_begins k e.0 h a.0, all_begin k es h a.1)

-- the path of a number among numbers of at most k bits
pub small_path : (k n : ℕ) (pairs : List (ℕ × List ℕ)) (before after : ℕ) → CostsPath number_bits n pairs before after → k ≤ 32 → n < 2 ^ k → AreBelow (2 ^ k) pairs → after ≤ before + k + 1
small_path k n pairs before after cost h less all =
    let c = cost (replicate (32 - k) false) (small_begins k n h less) (all_begin k pairs h all) in
    omega (arith, c, length-replicate {A = Bool} (32 - k) false, length-low_bits 32 n)
