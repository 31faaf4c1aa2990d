-- The number of the last operation that stands, from those of all that do.
use Rattle.std.proofs.Common.{◌≡◌, ℕ, ◌-◌, List, [], ◌∷◌, length, map, Option, None, Some, refl, sym, ap, ◌∙◌, arith}
use Rattle.std.specs.Prelude.{slice_get}
use Rattle.std.specs.Option.{unwrap_or, option_or}
use Rattle.std.proofs.lemmas.List.{length-map}
use Rattle.su_desk.specs.History.{NumberedAction, last_number}

abbrev numbers : List NumberedAction → List ℕ
numbers ts = map (λ t. t.number) ts

or_some : (a : Option ℕ) (x y : ℕ) → option_or (option_or a (Some x)) (Some y) ≡ option_or a (Some x)
or_some None x y = refl
or_some (Some z) x y = refl

last_after : (t : NumberedAction) (us : List NumberedAction) → last_number (t ∷ us) ≡ slice_get (numbers (t ∷ us)) (length us)
last_after t [] = refl
last_after t (u ∷ us) = or_some (last_number us) u.number t.number ∙ last_after u us

last_of_all : (ts : List NumberedAction) → unwrap_or (slice_get (numbers ts) (length (numbers ts) - 1)) 0 ≡ unwrap_or (last_number ts) 0
last_of_all [] = refl
last_of_all (t ∷ us) =
    let long = length-map us (λ (u : NumberedAction). u.number) in
    let place : length (numbers (t ∷ us)) - 1 ≡ length us = omega (arith, long) in
    ap (λ (i : ℕ). unwrap_or (slice_get (numbers (t ∷ us)) i) 0) place ∙ ap (λ (o : Option ℕ). unwrap_or o 0) (sym (last_after t us))

pub last_is : (ts : List NumberedAction) (all : List ℕ) (n : ℕ) → all ≡ numbers ts → n ≡ unwrap_or (slice_get all (length all - 1)) 0 → n ≡ unwrap_or (last_number ts) 0
last_is ts all n is last = last ∙ ap (λ (l : List ℕ). unwrap_or (slice_get l (length l - 1)) 0) is ∙ last_of_all ts
