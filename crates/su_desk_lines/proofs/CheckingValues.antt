-- A word with a bad name refuses a whole command.
use Rattle.std.proofs.Common.{◌≡◌, ◌∙◌, ◌⊎◌, refl, ap, sym, inl, inr, Bool, true, false, cond, ◌&&◌, List, [], ◌∷◌, ◌++◌, None, Some, map}
use Rattle.std.specs.List.{list_all}
use Rattle.std.proofs.lemmas.List.Folds.{list_all-append}
use Rattle.su_bytes.specs.declared.refusals.Refusal.{Refusal}
use Rattle.su_bytes.specs.declared.refusals.Refusal.TheVariants.{BadName, BadNumber, NoMemory}
use Rattle.su_desk_lines.specs.Form.{Value, is_good_name, is_good_number, value_refusal}
use Rattle.su_desk_lines.specs.Value.{value_of}
use Rattle.su_desk_lines.specs.declared.values.Value.{Value as Held}

fails_within : (a b c : Bool) → b ≡ false → (a && (b && c)) ≡ false
fails_within true b c e = ap (λ t. t && c) e
fails_within false b c e = refl

map-append : {X Y : Type 0} (f : X → Y) (xs ys : List X) → map f (xs ++ ys) ≡ map f xs ++ map f ys
map-append f [] ys = refl
map-append f (x ∷ xs) ys = ap (λ zs. f x ∷ zs) (map-append f xs ys)

bad_name : (before : List Value) (v : Value) (after : List Value) → is_good_name v ≡ false → value_refusal (before ++ v ∷ after) ≡ Some BadName
bad_name before v after bad =
    ap (λ b. cond b (cond (list_all is_good_number (before ++ v ∷ after)) None (Some BadNumber)) (Some BadName)) (list_all-append is_good_name before (v ∷ after) ∙ fails_within (list_all is_good_name before) (is_good_name v) (list_all is_good_name after) bad)

pub bad_word : (before : List Held) (v : Held) (after whole : List Held) (e : Refusal) → whole ≡ before ++ v ∷ after → (e ≡ NoMemory) ⊎ ((e ≡ BadName) × (is_good_name (value_of v) ≡ false)) → (e ≡ NoMemory) ⊎ (value_refusal (map value_of whole) ≡ Some e)
bad_word before v after whole e all (inl memory) = inl memory
bad_word before v after whole e all (inr (is, bad)) = inr (ap (λ vs. value_refusal (map value_of vs)) all ∙ ap value_refusal (map-append value_of before (v ∷ after)) ∙ bad_name (map value_of before) (value_of v) (map value_of after) bad ∙ ap Some (sym is))
