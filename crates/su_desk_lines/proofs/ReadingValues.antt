-- Words are read one after the other by their kinds.
use Rattle.std.proofs.Common.{◌≡◌, ◌∙◌, refl, ap, ℕ, List, [], ◌∷◌, ◌++◌, append_assoc, Option, Some, None, option_map}
use Rattle.su_desk_lines.specs.declared.forms.WordKind.{WordKind}
use Rattle.su_desk_lines.specs.Form.{Value, first_value, own_body, read_after, words_after}
use Rattle.su_desk_lines.specs.Script.{given}

-- some words were read, and the rest is still to be
abbrev pub read_on : List Value → List WordKind → Option ℕ → List (List ℕ) → Option (List Value)
read_on values kinds own words = option_map (λ more. values ++ more) (read_after kinds own words)

moved : (values : List Value) (value : Value) (r : Option (List Value)) → option_map (λ more. (values ++ value ∷ []) ++ more) r ≡ option_map (λ more. values ++ more) (option_map (λ more. value ∷ more) r)
moved values value None = refl
moved values value (Some more) = ap Some (append_assoc values (value ∷ []) more)

pub read_on-next : (values : List Value) (kind : WordKind) (kinds : List WordKind) (own : Option ℕ) (words : List (List ℕ)) (value : Value) → Some value ≡ first_value kind own words
    → read_on (values ++ value ∷ []) kinds (own_body value) (words_after words) ≡ read_on values (kind ∷ kinds) own words
read_on-next values kind kinds own words value is =
    moved values value (read_after kinds (own_body value) (words_after words)) ∙ ap (λ first. option_map (λ more. values ++ more) (given first (λ v. option_map (λ vs. v ∷ vs) (read_after kinds (own_body v) (words_after words))))) is

pub read_on-none : (values : List Value) (kind : WordKind) (kinds : List WordKind) (own : Option ℕ) (words : List (List ℕ)) → None ≡ first_value kind own words → None ≡ read_on values (kind ∷ kinds) own words
read_on-none values kind kinds own words is = ap (λ first. option_map (λ more. values ++ more) (given first (λ v. option_map (λ vs. v ∷ vs) (read_after kinds (own_body v) (words_after words))))) is
