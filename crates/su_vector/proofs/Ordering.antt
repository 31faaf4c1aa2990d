-- Positions in the order of their vectors, one inserted after another.
use Rattle.std.proofs.Common.{◌≡◌, ℕ, zero, suc, ◌+◌, ◌<◌, ◌≤◌, inl, inr, Bool, true, false, cond, ◌&&◌, nat_le, List, [], ◌∷◌, ◌++◌, refl, sym, ap, subst, ◌∙◌, arith}
use Rattle.std.specs.Prelude.{insert}
use Rattle.std.specs.List.{AllByRecursion, range_with_len}
use Rattle.std.specs.List.Sorted.{IsPermutation}
use Rattle.std.proofs.lemmas.Bool.{and_parts, leb-true, le-leb}
use Rattle.std.proofs.lemmas.List.{map-id}
use Rattle.std.proofs.lemmas.List.FromFn.{map-range_with_len_more}
use Rattle.std.proofs.lemmas.List.Sorted.{IsPermutation-insert, IsPermutation-append_left, IsPermutation-append_comm, IsPermutation-trans}
use Rattle.su_vector.specs.Vector.{le}
use Rattle.su_vector.specs.Order.{vector_at, IsAtMost, AreComparable, ComesBefore, Ascend, place_in}

pub le_transitive : (x y z : List ℕ) → le x y ≡ true → le y z ≡ true → le x z ≡ true
le_transitive [] [] z a b = b
le_transitive [] (n ∷ y) z a b = absurd (cc)
le_transitive (m ∷ x) [] z a b = absurd (cc)
le_transitive (m ∷ x) (n ∷ y) [] a b = absurd (cc)
le_transitive (m ∷ x) (n ∷ y) (k ∷ z) a b =
    let p = and_parts (nat_le m n) (le x y) a in
    let q = and_parts (nat_le n k) (le y z) b in
    let first : m ≤ n = leb-true m n p.0 in
    let second : n ≤ k = leb-true n k q.0 in
    let both : nat_le m k ≡ true = le-leb m k (omega arith) in
    let others : le x z ≡ true = le_transitive x y z p.1 q.1 in
    (λ i. both i && others i)

pub le_itself : (x : List ℕ) → le x x ≡ true
le_itself [] = refl
le_itself (m ∷ x) = let here : nat_le m m ≡ true = le-leb m m (omega arith) in let others = le_itself x in (λ i. here i && others i)

-- what holds of all but one holds with the one inserted
all_insert : (P : ℕ → Type 0) (order : List ℕ) (k p : ℕ) → P p → AllByRecursion P order → AllByRecursion P (insert order k p)
all_insert P [] zero p here all = (here, tt)
all_insert P [] (suc k) p here all = (here, tt)
all_insert P (q ∷ order) zero p here all = (here, all)
all_insert P (q ∷ order) (suc k) p here (first, all) = (first, all_insert P order k p here all)

all_so : (P Q : ℕ → Type 0) → ((q : ℕ) → P q → Q q) → (order : List ℕ) → AllByRecursion P order → AllByRecursion Q order
all_so P Q f [] all = tt
all_so P Q f (q ∷ order) (here, all) = (f q here, all_so P Q f order all)

module _ (vs : List (List ℕ)) where
  -- a vector that isn't at most another is greater, and comes behind it
  greater : (q p b : ℕ) → AreComparable vs q p → le (vector_at vs q) (vector_at vs p) ≡ false → IsAtMost vs q b → ComesBefore vs p b
  greater q p b comparable less most =
      let reverse : IsAtMost vs p q = elim comparable [ inl low ↦ absurd (cc (low, less)) | inr high ↦ high ] in (
        le_transitive (vector_at vs p) (vector_at vs q) (vector_at vs b) reverse most,
        λ same. let low : IsAtMost vs q p = subst (λ v. le (vector_at vs q) v ≡ true) (sym same) most in absurd (cc (low, less)),
      )

  ascend_step : (q p : ℕ) (order : List ℕ) → AreComparable vs q p → q < p → AllByRecursion (ComesBefore vs q) order → Ascend vs order → Ascend vs (insert order (place_in vs order p) p) → (b : Bool) → le (vector_at vs q) (vector_at vs p) ≡ b → Ascend vs (insert (q ∷ order) (cond b (suc (place_in vs order p)) 0) p)
  ascend_step q p order comparable less behind ascending more true most =
      (all_insert (ComesBefore vs q) order (place_in vs order p) p (most, λ _. less) behind, more)
  ascend_step q p order comparable less behind ascending more false above =
      ((greater q p q comparable above (le_itself (vector_at vs q)), all_so (ComesBefore vs q) (ComesBefore vs p) (λ b before. greater q p b comparable above before.0) order behind), (behind, ascending))

  -- what is inserted at its place comes behind those that are at most it, and before the others
  ascend_insert : (order : List ℕ) (p : ℕ) → ((q : ℕ) → q < p → AreComparable vs q p) → AllByRecursion (λ q. q < p) order → Ascend vs order → Ascend vs (insert order (place_in vs order p) p)
  ascend_insert [] p comparable below ascending = (tt, tt)
  ascend_insert (q ∷ order) p comparable (less, below) (behind, ascending) =
      ascend_step q p order (comparable q less) less behind ascending (ascend_insert order p comparable below ascending) (le (vector_at vs q) (vector_at vs p)) refl

  -- the first positions, in the order of their vectors
  pub record IsOrderOfFirst (n : ℕ) (order : List ℕ) : Type 0 where
    pub positions : IsPermutation (range_with_len 0 n) order
    pub below : AllByRecursion (λ q. q < n) order
    pub ascending : Ascend vs order

range_more : (n : ℕ) → range_with_len 0 (n + 1) ≡ range_with_len 0 n ++ n ∷ []
range_more n = sym (map-id (range_with_len 0 (n + 1))) ∙ map-range_with_len_more (λ k. k) 0 n n (omega arith) ∙ ap (λ l. l ++ n ∷ []) (map-id (range_with_len 0 n))

-- one position more
pub one_position_more : (vs : List (List ℕ)) (n : ℕ) (order : List ℕ) → ((q : ℕ) → q < n → AreComparable vs q n) → IsOrderOfFirst vs n order → IsOrderOfFirst vs (n + 1) (insert order (place_in vs order n) n)
one_position_more vs n order comparable are = record {
  positions = subst (λ l. IsPermutation l (insert order (place_in vs order n) n)) (sym (range_more n))
      (IsPermutation-trans _ _ _ (IsPermutation-append_left (n ∷ []) (range_with_len 0 n) order are.positions)
      (IsPermutation-trans _ _ _ (IsPermutation-append_comm order (n ∷ [])) (IsPermutation-insert order (place_in vs order n) n)));
  below = all_insert (λ q. q < n + 1) order (place_in vs order n) n (omega arith) (all_so (λ q. q < n) (λ q. q < n + 1) (λ q low. omega arith) order are.below);
  ascending = ascend_insert vs order n comparable are.below are.ascending;
}
