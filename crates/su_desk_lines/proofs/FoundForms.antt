-- The row of a word, in a table and in the list of its rows.
use Rattle.std.proofs.Common.{◌≡◌, ◌∙◌, refl, ap, sym, ℕ, Bool, true, false, cond, List, [], ◌∷◌, map, Option, Some, None, option_map, find, Bor}
use Rattle.su_desk_lines.specs.declared.forms.WordKind.{WordKind}
use Rattle.su_desk_lines.specs.Form.{form_of, row_of}
use Rattle.su_desk_lines.specs.Script.{is_word}

mapped : {X Y : Type 0} (f : X → Y) (b : Bool) (x : X) (r : Option X) → cond b (Some (f x)) (option_map f r) ≡ option_map f (cond b (Some x) r)
mapped f true x r = refl
mapped f false x r = refl

-- the first of the images is the image of the first
find-map : {X Y : Type 0} (p : Y → Bool) (f : X → Y) (xs : List X) → find p (map f xs) ≡ option_map f (find (λ x. p (f x)) xs)
find-map p f [] = refl
find-map p f (x ∷ xs) = ap (λ r. cond (p (f x)) (Some (f x)) r) (find-map p f xs) ∙ mapped f (p (f x)) x (find (λ y. p (f y)) xs)

rows_after : {V : Type 0} (r : Option (Bor (Bor (List ℕ) × V × Bor (List WordKind)))) → option_map (λ form. row_of form.now) r ≡ option_map (row_of {V = V}) (option_map (λ form. form.now) r)
rows_after None = refl
rows_after (Some form) = refl

pub row_found : {V : Type 0} (forms : List (Bor (List ℕ) × V × Bor (List WordKind))) (word : List ℕ) (r : Option (Bor (Bor (List ℕ) × V × Bor (List WordKind)))) → option_map (λ form. form.now) r ≡ find (λ form. is_word form.0.now word) forms
    → option_map (λ form. row_of form.now) r ≡ form_of (map (row_of {V = V}) forms) word
row_found {V} forms word r e = rows_after r ∙ ap (option_map (row_of {V = V})) e ∙ sym (find-map (λ row. is_word row.word word) (row_of {V = V}) forms)
