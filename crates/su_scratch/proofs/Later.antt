-- What the last notes tell.
use Rattle.std.proofs.Common.{◌≡◌, ℕ, suc, ◌+◌, ◌<◌, Bool, true, false, cond, List, [], ◌∷◌, ◌++◌, length, drop, get_or, Option, Some, None, refl, sym, ap, ◌∙◌, add-one, drop-cons}
use Rattle.std.specs.Option.{option_or}
use Rattle.std.specs.Str.{bytes_eq}
use Rattle.su_scratch.specs.declared.notes.Place.{Place}
use Rattle.su_scratch.specs.declared.notes.Note.{Note}
use Rattle.su_scratch.specs.Page.{later, place_in}

or_some : {X : Type 0} (o : Option X) (x : X) (f : Option X) → option_or o (Some x) ≡ option_or (option_or o (Some x)) f
or_some None x f = refl
or_some (Some y) x f = refl

step : (d : List ℕ) (ns : List Note) → ((f : Option Place) → later d f ns ≡ option_or (later d None ns) f) → (b : Bool) (p : Place) (f : Option Place) → later d (cond b (Some p) f) ns ≡ option_or (later d (cond b (Some p) None) ns) f
step d ns each true p f = each (Some p) ∙ or_some (later d None ns) p f ∙ ap (λ o. option_or o f) (sym (each (Some p)))
step d ns each false p f = each f

-- what was found before stands only where no note tells more
pub later_or : (d : List ℕ) (f : Option Place) (ns : List Note) → later d f ns ≡ option_or (place_in d ns) f
later_or d f [] = refl
later_or d f (n ∷ ns) = step d ns (λ g. later_or d g ns) (bytes_eq d n.digest) n.place f

pub later_some : (d : List ℕ) (f : Option Place) (ns : List Note) (p : Place) → place_in d ns ≡ Some p → later d f ns ≡ Some p
later_some d f ns p is = later_or d f ns ∙ ap (λ o. option_or o f) is

pub later_none : (d : List ℕ) (f : Option Place) (ns : List Note) → place_in d ns ≡ None → later d f ns ≡ f
later_none d f ns is = later_or d f ns ∙ ap (λ o. option_or o f) is

pub later-append : (d : List ℕ) (f : Option Place) (xs ys : List Note) → later d f (xs ++ ys) ≡ later d (later d f xs) ys
later-append d f [] ys = refl
later-append d f (x ∷ xs) ys = later-append d (cond (bytes_eq d x.digest) (Some x.place) f) xs ys

-- the note at an index is the next of those from there on
next_at : (ns : List Note) (i : ℕ) (n : Note) → i < length ns → n ≡ get_or ns i n → drop i ns ≡ n ∷ drop (i + 1) ns
next_at ns i n h is = rw (add-one i) (drop-cons ns i n h ∙ ap (λ x. x ∷ drop (suc i) ns) (sym is))

pub told_at : (d : List ℕ) (f g r : Option Place) (ns : List Note) (i : ℕ) (n : Note) → i < length ns → n ≡ get_or ns i n → g ≡ cond (bytes_eq d n.digest) (Some n.place) f → later d f (drop i ns) ≡ r → later d g (drop (i + 1) ns) ≡ r
told_at d f g r ns i n h is now all =
    ap (λ o. later d o (drop (i + 1) ns)) now ∙ ap (later d f) (sym (next_at ns i n h is)) ∙ all
