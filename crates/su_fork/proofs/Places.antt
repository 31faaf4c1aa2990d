-- Lists whose elements are numbered from 1; what stands in joined lists.
use Rattle.std.proofs.Common.{◌≡◌, ℕ, suc, ◌+◌, ◌-◌, ◌<◌, ◌≤◌, ◌⊎◌, Bool, true, false, cond, List, [], ◌∷◌, ◌++◌, length, take, drop, slice_get, None, Some, nat_eq, refl, sym, ap, ◌∙◌, subst, arith, length-append, inl, inr}
use Rattle.std.specs.List.{flat_map, Contains}
use Rattle.std.proofs.lemmas.Option.{slice_get_within, get_or_from_slice_get, slice_get-get_or}
use Rattle.std.proofs.lemmas.List.{take-append-drop, length-take, length-take-le, get_or-take}
use Rattle.std.proofs.lemmas.List.Elements.{Contains-append_cases, Contains-append_left, Contains-append_right}
use Rattle.std.proofs.Math.Seq.{drop-cons, take-suc}
use Rattle.std.proofs.Math.ListN.{get_or-append}
use Rattle.su_legal.proofs.Public.{is_in_middle, none_in_empty}
use Rattle.su_fork.specs.Numbered.{at}

pub at_get : {A : Type 0} (xs : List A) (n : ℕ) (x : A) → at xs n ≡ Some x → (0 < n) × (slice_get xs (n - 1) ≡ Some x)
at_get xs n x e = go (nat_eq n 0) refl e
  where
    go : (b : Bool) → nat_eq n 0 ≡ b → cond b None (slice_get xs (n - 1)) ≡ Some x → (0 < n) × (slice_get xs (n - 1) ≡ Some x)
    go true is e = cc
    go false is e = (grind arith, e)

pub get_at : {A : Type 0} (xs : List A) (n : ℕ) (x : A) → 0 < n → slice_get xs (n - 1) ≡ Some x → at xs n ≡ Some x
get_at xs n x l e = let other : nat_eq n 0 ≡ false = grind arith in ap (λ b. cond b None (slice_get xs (n - 1))) other ∙ e

pub at_within : {A : Type 0} (xs : List A) (n : ℕ) (x : A) → at xs n ≡ Some x → n ≤ length xs
at_within xs n x e = let g = at_get xs n x e in let w = slice_get_within xs (n - 1) x g.1 in omega arith

-- what stands before an element and after it
pub record Split {A : Type 0} (xs : List A) (n : ℕ) (x : A) : Type 0 where
  pub rest : List A
  pub whole : xs ≡ take (n - 1) xs ++ x ∷ rest
  pub number : length (take (n - 1) xs) + 1 ≡ n

pub split : {A : Type 0} (xs : List A) (n : ℕ) (x : A) → at xs n ≡ Some x → Split xs n x
split xs n x e =
    let g = at_get xs n x e in
    let w = slice_get_within xs (n - 1) x g.1 in
    let long = length-take-le (n - 1) xs (omega arith) in
    record {
      rest = drop (suc (n - 1)) xs;
      whole = sym (take-append-drop (n - 1) xs) ∙ ap (λ ys. take (n - 1) xs ++ ys) (drop-cons xs (n - 1) x w ∙ ap (λ y. y ∷ drop (suc (n - 1)) xs) (get_or_from_slice_get xs (n - 1) x x g.1));
      number = omega arith;
    }

-- an element is the last one up to its number
pub take_at : {A : Type 0} (xs : List A) (n : ℕ) (x : A) → at xs n ≡ Some x → take n xs ≡ take (n - 1) xs ++ x ∷ []
take_at xs n x e =
    let g = at_get xs n x e in
    let w = slice_get_within xs (n - 1) x g.1 in
    let next : n ≡ suc (n - 1) = omega arith in
    ap (λ k. take k xs) next ∙ take-suc xs (n - 1) x w ∙ ap (λ y. take (n - 1) xs ++ y ∷ []) (get_or_from_slice_get xs (n - 1) x x g.1)

pub at_front : {A : Type 0} (xs ys : List A) (n : ℕ) (x : A) → at xs n ≡ Some x → at (xs ++ ys) n ≡ Some x
at_front xs ys n x e =
    let g = at_get xs n x e in
    let w = slice_get_within xs (n - 1) x g.1 in
    let more = length-append xs ys in
    get_at (xs ++ ys) n x g.0 (slice_get-get_or (xs ++ ys) (n - 1) x (omega arith) ∙ ap Some (get_or-append xs ys x (n - 1) w ∙ get_or_from_slice_get xs (n - 1) x x g.1))

pub at_take : {A : Type 0} (xs : List A) (k n : ℕ) (x : A) → at xs n ≡ Some x → n ≤ k → at (take k xs) n ≡ Some x
at_take xs k n x e l =
    let g = at_get xs n x e in
    let w = slice_get_within xs (n - 1) x g.1 in
    let long = length-take k xs in
    get_at (take k xs) n x g.0 (slice_get-get_or (take k xs) (n - 1) x (omega arith) ∙ ap Some (get_or-take k xs (n - 1) x (omega arith) ∙ get_or_from_slice_get xs (n - 1) x x g.1))

pub at_from_take : {A : Type 0} (xs : List A) (k n : ℕ) (x : A) → at (take k xs) n ≡ Some x → at xs n ≡ Some x
at_from_take xs k n x e = subst (λ ys. at ys n ≡ Some x) (take-append-drop k xs) (at_front (take k xs) (drop k xs) n x e)

pub same_some : {A : Type 0} (x y : A) → Some x ≡ Some y → x ≡ y
same_some x y e = cc

-- ---- elements of joined lists

pub at_contains : {A : Type 0} (xs : List A) (n : ℕ) (x : A) → at xs n ≡ Some x → Contains xs x
at_contains xs n x e = let s = split xs n x e in subst (λ ys. Contains ys x) (sym s.whole) (is_in_middle (take (n - 1) xs) s.rest x)

-- what stands in a joined list stands in the part of one element
pub record FoundIn {X A : Type 0} (f : X → List A) (es : List X) (x : A) : Type 0 where
  pub before : List X
  pub element : X
  pub after : List X
  pub whole : es ≡ before ++ element ∷ after
  pub there : Contains (f element) x

pub found : {X A : Type 0} (f : X → List A) (es : List X) (x : A) → Contains (flat_map f es) x → FoundIn f es x
found f [] x c = absurd (none_in_empty x c)
found f (e ∷ es) x c = go (found f es x) (Contains-append_cases (f e) (flat_map f es) x c)
  where
    go : (Contains (flat_map f es) x → FoundIn f es x) → Contains (f e) x ⊎ Contains (flat_map f es) x → FoundIn f (e ∷ es) x
    go more (inl here) = record { before = []; element = e; after = es; whole = refl; there = here }
    go more (inr later) =
        let m = more later in
        record { before = e ∷ m.before; element = m.element; after = m.after; whole = ap (λ ys. e ∷ ys) m.whole; there = m.there }

pub in_joined : {X A : Type 0} (f : X → List A) (before after : List X) (e : X) (x : A) → Contains (f e) x → Contains (flat_map f (before ++ e ∷ after)) x
in_joined f [] after e x c = Contains-append_left (f e) (flat_map f after) x c
in_joined f (b ∷ before) after e x c = Contains-append_right (f b) (flat_map f (before ++ e ∷ after)) x (in_joined f before after e x c)

-- ---- lists by their last elements

pub record Ends {A : Type 0} (xs : List A) : Type 0 where
  pub front : List A
  pub last : A
  pub whole : xs ≡ front ++ last ∷ []

pub last_of : {A : Type 0} (xs : List A) → (xs ≡ []) ⊎ Ends xs
last_of [] = inl refl
last_of (x ∷ xs) = inr (go (last_of xs))
  where
    go : (xs ≡ []) ⊎ Ends xs → Ends (x ∷ xs)
    go (inl e) = record { front = []; last = x; whole = ap (λ ys. x ∷ ys) e }
    go (inr m) = record { front = x ∷ m.front; last = m.last; whole = ap (λ ys. x ∷ ys) m.whole }
