-- What files keep in turn, as one of them changes and as one more comes.
use Rattle.std.proofs.Common.{◌≡◌, ◌<◌, ℕ, zero, suc, List, [], ◌∷◌, ◌++◌, length, get_or, Result, Ok, Err, OnOk, sym, subst, arith}
use Rattle.std.proofs.Math.ListN.{set}
use Rattle.std.specs.List.{All, AllZip}

pub on_ok : {T E : Type 0} {P Q : Type 0} (r : Result T E) → (P → Q) → OnOk r P → OnOk r Q
on_ok (Ok x) on p = on p
on_ok (Err e) on p = tt

-- what holds of all items with one changed held of all before, if it did of that one
pub all_unset : {A : Type 0} (P : A → Type 0) (xs : List A) (i : ℕ) (old new : A) → get_or xs i old ≡ old → (P new → P old) → All P (set xs i new) → All P xs
all_unset P [] i old new at on all k d lt = absurd (omega (arith, lt))
all_unset P (x ∷ xs) zero old new at on all zero d lt = subst P (sym at) (on (all zero d (omega arith)))
all_unset P (x ∷ xs) zero old new at on all (suc k) d lt = all (suc k) d lt
all_unset P (x ∷ xs) (suc i) old new at on all zero d lt = all zero d (omega arith)
all_unset P (x ∷ xs) (suc i) old new at on all (suc k) d lt =
    all_unset P xs i old new at on (λ j e less. all (suc j) e (omega (arith, less))) k d (omega (arith, lt))

pub unset_ok : {A T E : Type 0} (P : A → Type 0) (r : Result T E) (was xs : List A) (i : ℕ) (old new : A) → get_or xs i old ≡ old → (All P xs → All P was) → OnOk r (P new → P old) → OnOk r (All P (set xs i new) → All P was)
unset_ok P (Ok t) was xs i old new at before on = λ all. before (all_unset P xs i old new at on all)
unset_ok P (Err e) was xs i old new at before on = tt

module _ {A B : Type 0} (R : A → B → Type 0) where
  -- an item may change where what holds of it stays so
  pub all_zip_set : (xs : List A) (ys : List B) (i : ℕ) (old new : A) → get_or xs i old ≡ old → ((y : B) → R old y → R new y) → AllZip R xs ys → AllZip R (set xs i new) ys
  all_zip_set [] ys i old new at keeps all = all
  all_zip_set (x ∷ xs) [] i old new at keeps all = absurd all
  all_zip_set (x ∷ xs) (y ∷ ys) zero old new at keeps all = (keeps y (subst (λ z. R z y) at all.0), all.1)
  all_zip_set (x ∷ xs) (y ∷ ys) (suc i) old new at keeps all = (all.0, all_zip_set xs ys i old new at keeps all.1)

  pub all_zip_push : (xs : List A) (ys : List B) (x : A) (y : B) → AllZip R xs ys → R x y → AllZip R (xs ++ x ∷ []) (ys ++ y ∷ [])
  all_zip_push [] [] x y all one = (one, tt)
  all_zip_push [] (z ∷ ys) x y all one = absurd all
  all_zip_push (z ∷ xs) [] x y all one = absurd all
  all_zip_push (z ∷ xs) (w ∷ ys) x y all one = (all.0, all_zip_push xs ys x y all.1 one)
