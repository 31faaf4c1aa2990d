-- Elements of joined lists, and lists by their last elements.
use Rattle.std.proofs.Common.{◌≡◌, zero, suc, ◌⊎◌, List, [], ◌∷◌, ◌++◌, refl, sym, ap, subst, arith, append_assoc, append-nil, inl, inr}
use Rattle.std.specs.List.{Contains}
use Rattle.std.proofs.lemmas.List.Elements.{Contains-append_cases, Contains-append_right}

pub is_in_middle : {A : Type 0} (xs ys : List A) (x : A) → Contains (xs ++ x ∷ ys) x
is_in_middle xs ys x = Contains-append_right xs (x ∷ ys) x (0, omega arith, refl)

pub none_in_empty : {A : Type 0} (x : A) → Contains [] x → ⊥
none_in_empty x (k, l, e) = omega (arith, l)

pub only_in : {A : Type 0} (x y : A) → Contains (x ∷ []) y → x ≡ y
only_in x y (zero, l, e) = e
only_in x y (suc k, l, e) = absurd (omega (arith, l))

-- what a list contains stands between others
pub record Between {A : Type 0} (xs : List A) (x : A) : Type 0 where
  pub before : List A
  pub after : List A
  pub whole : xs ≡ before ++ x ∷ after

pub found_split : {A : Type 0} (xs : List A) (x : A) → Contains xs x → Between xs x
found_split [] x c = absurd (none_in_empty x c)
found_split (y ∷ xs) x c = go (λ later. found_split xs x later) (Contains-append_cases (y ∷ []) xs x c)
  where
    go : (Contains xs x → Between xs x) → Contains (y ∷ []) x ⊎ Contains xs x → Between (y ∷ xs) x
    go more (inl here) = record { before = []; after = xs; whole = ap (λ z. z ∷ xs) (only_in y x here) }
    go more (inr later) =
        let m = more later in
        record { before = y ∷ m.before; after = m.after; whole = ap (λ ys. y ∷ ys) m.whole }

-- what holds of no elements, and with one more at the end, holds of every list
pub from_the_end : {A : Type 0} (P : List A → Type 0)
    → P [] → ((xs : List A) (x : A) → P xs → P (xs ++ x ∷ [])) → (xs : List A) → P xs
from_the_end {A = A} P first step xs = go [] xs first
  where
    go : (done rest : List A) → P done → P (done ++ rest)
    go done [] p = subst P (sym (append-nil done)) p
    go done (x ∷ rest) p = subst P (append_assoc done (x ∷ []) rest) (go (done ++ x ∷ []) rest (step done x p))
