-- What stays known of a tree from which a pair is taken.
use Rattle.std.proofs.Common.{◌≡◌, ◌∙◌, ◌⊎◌, inl, inr, ℕ, Bool, true, false, IsTrue, List, [], ◌∷◌, ◌++◌, cond, not, length, None, sym, ap, subst, refl, arith}
use Rattle.std.proofs.lemmas.Bool.{cases_Bool}
use Rattle.std.specs.FinMap.Entries as by
use Rattle.std.specs.Ordering.{is_eq, eq_by_cmp}
use Rattle.std.specs.declared.cmp.Ordering.{Ordering}
use Rattle.su_tree.specs.Bits.{bit_at}
use Rattle.su_hash_tree.specs.Sort.{Sort}
use Rattle.su_hash_tree.specs.Edits.{key_cmp, value_at, without_key}
use Rattle.su_hash_tree.specs.declared.nodes.Node.{Node, Split'}
use Rattle.su_hash_tree.specs.Stands.{Stands, Joins, IsEmpty, Known, reached}
use Rattle.su_hash_tree.proofs.Removals.{absent_stays, taken_left, taken_right}
use Rattle.su_hash_tree.proofs.Sides.{value_nowhere}
use Rattle.su_hash_tree.proofs.Standing.{stands_map, at_split, value_in_left, value_in_right}
use Rattle.su_part_tree.proofs.Seeing.{past, before, none_there}

-- ---- where a key isn't there

kept_none : {K V : Type 0} (R : K → K → Ordering) (k : K) (keep : K → Bool) (m : List (K × V)) → by.find R k m ≡ None → by.find R k (by.where_key R keep m) ≡ None
kept_none R k keep [] e = refl
kept_none R k keep (x ∷ m) e = elim (cases_Bool (is_eq (R k x.0))) [
  | inl t ↦ absurd (let g = rw t at e in cc)
  | inr f ↦ go f (keep x.0) (kept_none R k keep m (rw f at e))
]
  where
    go : is_eq (R k x.0) ≡ false → (b : Bool) → by.find R k (by.where_key R keep m) ≡ None → by.find R k (cond b (x ∷ by.where_key R keep m) (by.where_key R keep m)) ≡ None
    go f true h = rw f h
    go f false h = h

picks_first : {b : Bool} (x y : Bool) → b ≡ true → cond b x y ≡ x
picks_first x y e = rw e refl

picks_second : {b : Bool} (x y : Bool) → b ≡ false → cond b x y ≡ y
picks_second x y e = rw e refl

module _ {K V : Type 0} (t : Sort K V) where
  -- nothing is taken
  pub known_same : (key k : K) (n : Node K V) (m : List (K × V)) → None ≡ value_at t.kind.bits key m → Known t.kind.bits k n m → Known t.kind.bits k n (without_key t.kind.bits key m)
  known_same key k n m none h = rw (absent_stays t.kind.bits key m none) h

  -- a key that isn't there isn't there then
  none_without : (key k : K) (m : List (K × V)) → value_at t.kind.bits k m ≡ None → value_at t.kind.bits k (without_key t.kind.bits key m) ≡ None
  unfolding value_at without_key
  none_without key k m e = kept_none (key_cmp t.kind.bits) k (λ x. not (eq_by_cmp (key_cmp t.kind.bits) key x)) m e

  module _ (p : ℕ) (d : List ℕ) (l r : Node K V) (m : List (K × V)) (key : K) (j : Joins t p d (Stands t l) (Stands t r) m) where
    -- from the right side
    module _ (r' : Node K V) (bit : bit_at (t.kind.bits key) p ≡ true) (new : Stands t r' (without_key t.kind.bits key j.right)) where
      right_is : without_key t.kind.bits key m ≡ j.left ++ without_key t.kind.bits key j.right
      right_is = let c = taken_right t.kind.bits (at_split t p d l r m j) key bit refl refl (stands_map t r' _ new).tree in sym c.is

      value_right : (k : K) → bit_at (t.kind.bits k) p ≡ true → value_at t.kind.bits k (without_key t.kind.bits key m) ≡ value_at t.kind.bits k (without_key t.kind.bits key j.right)
      value_right k b = ap (value_at t.kind.bits k) right_is ∙ past t k p j.parts.word j.left (without_key t.kind.bits key j.right) j.parts.at b j.parts.zeros

      pub known_on_right : ((k : K) → Known t.kind.bits k r j.right → Known t.kind.bits k r' (without_key t.kind.bits key j.right)) → {x : Node K V} {a b : _} → x ≡ Split' p a l b r d → (k : K) → Known t.kind.bits k x m
          → IsTrue (cond (bit_at (t.kind.bits k) p) (reached t.kind.bits k r') (reached t.kind.bits k l)) ⊎ (value_at t.kind.bits k (without_key t.kind.bits key m) ≡ None)
      known_on_right on {x} is k h = elim (cases_Bool (bit_at (t.kind.bits k) p)) [
        | inl e ↦ up e (on k (down e h))
        | inr e ↦ other e h
      ]
        where
          down : bit_at (t.kind.bits k) p ≡ true → Known t.kind.bits k x m → Known t.kind.bits k r j.right
          down e (inl y) = inl (subst IsTrue (picks_first (reached t.kind.bits k r) (reached t.kind.bits k l) e) (subst (λ z. IsTrue (reached t.kind.bits k z)) is y))
          down e (inr y) = inr (value_in_right t p d (Stands t l) (Stands t r) m k j e ∙ y)

          up : bit_at (t.kind.bits k) p ≡ true → Known t.kind.bits k r' (without_key t.kind.bits key j.right) → IsTrue (cond (bit_at (t.kind.bits k) p) (reached t.kind.bits k r') (reached t.kind.bits k l)) ⊎ (value_at t.kind.bits k (without_key t.kind.bits key m) ≡ None)
          up e (inl y) = inl (subst IsTrue (sym (picks_first _ _ e)) y)
          up e (inr y) = inr (value_right k e ∙ y)

          other : bit_at (t.kind.bits k) p ≡ false → Known t.kind.bits k x m → IsTrue (cond (bit_at (t.kind.bits k) p) (reached t.kind.bits k r') (reached t.kind.bits k l)) ⊎ (value_at t.kind.bits k (without_key t.kind.bits key m) ≡ None)
          other e (inl y) = inl (subst IsTrue (sym (picks_second _ _ e)) (subst IsTrue (picks_second (reached t.kind.bits k r) (reached t.kind.bits k l) e) (subst (λ z. IsTrue (reached t.kind.bits k z)) is y)))
          other e (inr y) = inr (none_without key k m y)

      -- and a side that is empty then is left out
      pub settled_right : (x : Node K V) (k : K) → (IsTrue (cond (bit_at (t.kind.bits k) p) (reached t.kind.bits k r') (reached t.kind.bits k l)) → IsTrue (reached t.kind.bits k x) ⊎ ((((bit_at (t.kind.bits k) p ≡ true) × IsEmpty r') ⊎ ((bit_at (t.kind.bits k) p ≡ false) × IsEmpty l))))
          → IsTrue (cond (bit_at (t.kind.bits k) p) (reached t.kind.bits k r') (reached t.kind.bits k l)) ⊎ (value_at t.kind.bits k (without_key t.kind.bits key m) ≡ None) → Known t.kind.bits k x (without_key t.kind.bits key m)
      settled_right x k settle (inr y) = inr y
      settled_right x k settle (inl y) = elim (settle y) [
        | inl z ↦ inl z
        | inr (inl e) ↦ inr (value_right k e.0 ∙ ap (value_at t.kind.bits k) (none_there t r' _ new e.1) ∙ sym (value_nowhere t.kind.bits k))
        | inr (inr e) ↦ absurd (omega (arith, ap length (none_there t l _ j.in_left e.1), j.parts.some_left))
      ]

    -- from the left side
    module _ (l' : Node K V) (bit : bit_at (t.kind.bits key) p ≡ false) (new : Stands t l' (without_key t.kind.bits key j.left)) where
      left_is : without_key t.kind.bits key m ≡ without_key t.kind.bits key j.left ++ j.right
      left_is = let c = taken_left t.kind.bits (at_split t p d l r m j) key bit refl refl (stands_map t l' _ new).tree in sym c.is

      value_left : (k : K) → bit_at (t.kind.bits k) p ≡ false → value_at t.kind.bits k (without_key t.kind.bits key m) ≡ value_at t.kind.bits k (without_key t.kind.bits key j.left)
      value_left k b = ap (value_at t.kind.bits k) left_is ∙ before t k p j.parts.word (without_key t.kind.bits key j.left) j.right j.parts.at b j.parts.ones

      pub known_on_left : ((k : K) → Known t.kind.bits k l j.left → Known t.kind.bits k l' (without_key t.kind.bits key j.left)) → {x : Node K V} {a b : _} → x ≡ Split' p a l b r d → (k : K) → Known t.kind.bits k x m
          → IsTrue (cond (bit_at (t.kind.bits k) p) (reached t.kind.bits k r) (reached t.kind.bits k l')) ⊎ (value_at t.kind.bits k (without_key t.kind.bits key m) ≡ None)
      known_on_left on {x} is k h = elim (cases_Bool (bit_at (t.kind.bits k) p)) [
        | inl e ↦ other e h
        | inr e ↦ up e (on k (down e h))
      ]
        where
          down : bit_at (t.kind.bits k) p ≡ false → Known t.kind.bits k x m → Known t.kind.bits k l j.left
          down e (inl y) = inl (subst IsTrue (picks_second (reached t.kind.bits k r) (reached t.kind.bits k l) e) (subst (λ z. IsTrue (reached t.kind.bits k z)) is y))
          down e (inr y) = inr (value_in_left t p d (Stands t l) (Stands t r) m k j e ∙ y)

          up : bit_at (t.kind.bits k) p ≡ false → Known t.kind.bits k l' (without_key t.kind.bits key j.left) → IsTrue (cond (bit_at (t.kind.bits k) p) (reached t.kind.bits k r) (reached t.kind.bits k l')) ⊎ (value_at t.kind.bits k (without_key t.kind.bits key m) ≡ None)
          up e (inl y) = inl (subst IsTrue (sym (picks_second _ _ e)) y)
          up e (inr y) = inr (value_left k e ∙ y)

          other : bit_at (t.kind.bits k) p ≡ true → Known t.kind.bits k x m → IsTrue (cond (bit_at (t.kind.bits k) p) (reached t.kind.bits k r) (reached t.kind.bits k l')) ⊎ (value_at t.kind.bits k (without_key t.kind.bits key m) ≡ None)
          other e (inl y) = inl (subst IsTrue (sym (picks_first _ _ e)) (subst IsTrue (picks_first (reached t.kind.bits k r) (reached t.kind.bits k l) e) (subst (λ z. IsTrue (reached t.kind.bits k z)) is y)))
          other e (inr y) = inr (none_without key k m y)

      -- and a side that is empty then is left out
      pub settled_left : (x : Node K V) (k : K) → (IsTrue (cond (bit_at (t.kind.bits k) p) (reached t.kind.bits k r) (reached t.kind.bits k l')) → IsTrue (reached t.kind.bits k x) ⊎ ((((bit_at (t.kind.bits k) p ≡ true) × IsEmpty r) ⊎ ((bit_at (t.kind.bits k) p ≡ false) × IsEmpty l'))))
          → IsTrue (cond (bit_at (t.kind.bits k) p) (reached t.kind.bits k r) (reached t.kind.bits k l')) ⊎ (value_at t.kind.bits k (without_key t.kind.bits key m) ≡ None) → Known t.kind.bits k x (without_key t.kind.bits key m)
      settled_left x k settle (inr y) = inr y
      settled_left x k settle (inl y) = elim (settle y) [
        | inl z ↦ inl z
        | inr (inl e) ↦ absurd (omega (arith, ap length (none_there t r _ j.in_right e.1), j.parts.some_right))
        | inr (inr e) ↦ inr (value_left k e.0 ∙ ap (value_at t.kind.bits k) (none_there t l' _ new e.1) ∙ sym (value_nowhere t.kind.bits k))
      ]
