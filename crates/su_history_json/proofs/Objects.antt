-- The objects of lines.
use Rattle.std.proofs.Common.{◌≡◌, ◌∙◌, ℕ, ◌+◌, ◌<◌, ◌≤◌, false, List, [], ◌∷◌, ◌++◌, map, length, take, get_or, Option, Some, None, refl, sym, ap}
use Rattle.std.proofs.lemmas.List.{map-append, take_all, take_more}
use Rattle.std.specs.Prelude.{◌||◌, option_map}
use Rattle.serde_json.specs.Data.{array}
use Rattle.serde_json.specs.View.{items_of, view}
use Rattle.serde_json.specs.Written.{has_float, items_have_float}
use Rattle.serde_json.specs.declared.value.Value.{Value}
use Rattle.su_history.specs.declared.line.Line.{Line}
use Rattle.su_history_text.specs.FileNames.{Names}
use Rattle.su_history_text.specs.Parts.{file_text}
use Rattle.su_history_json.specs.Json.{bytes_of, file_of, history_data, line_data, number_or_null, text_or_null, undid_of, undoer_of}

pub one_object_more : (team : List (List ℕ × List ℕ)) (names : Names) (ls : List Line) (i : ℕ) (l : Line) (vs : List Value) (v : Value) → i < length ls → l ≡ get_or ls i l
    → map view vs ≡ map (line_data team names) (take i ls) → view v ≡ line_data team names l → map view (vs ++ v ∷ []) ≡ map (line_data team names) (take (i + 1) ls)
one_object_more team names ls i l vs v within is before object =
    map-append view vs (v ∷ [])
    ∙ (λ j. before j ++ object j ∷ [])
    ∙ sym (map-append (line_data team names) (take i ls) (l ∷ []))
    ∙ ap (map (line_data team names)) (sym (take_more ls i l within ∙ ap (λ x. take i ls ++ x ∷ []) (sym is)))

-- ---- they have no number but whole ones

whole_number : (o : Option ℕ) → has_float (number_or_null o) ≡ false
whole_number None = refl
whole_number (Some n) = refl

whole_text : (o : Option (List ℕ)) → has_float (text_or_null o) ≡ false
whole_text None = refl
whole_text (Some t) = refl

whole_object : (team : List (List ℕ × List ℕ)) (names : Names) (l : Line) → has_float (line_data team names l) ≡ false
whole_object team names l =
    rw (whole_number (bytes_of l.deed), whole_text (option_map (file_text names) (file_of l.deed)), whole_number (undid_of l.deed), whole_number (undoer_of l.fate)) refl

whole_objects : (team : List (List ℕ × List ℕ)) (names : Names) (ls : List Line) → items_have_float (items_of (map (line_data team names) ls)) ≡ false
whole_objects team names [] = refl
whole_objects team names (l ∷ ls) =
    ap (λ b. b || items_have_float (items_of (map (line_data team names) ls))) (whole_object team names l) ∙ whole_objects team names ls

pub whole : (team : List (List ℕ × List ℕ)) (names : Names) (ls : List Line) → has_float (history_data team names ls) ≡ false
whole team names ls = whole_objects team names ls

-- ---- the array of them

pub all_objects : (team : List (List ℕ × List ℕ)) (names : Names) (ls : List Line) (i : ℕ) (vs : List Value) → length ls ≤ i → map view vs ≡ map (line_data team names) (take i ls)
    → array (items_of (map view vs)) ≡ history_data team names ls
all_objects team names ls i vs ends is = ap (λ ds. array (items_of ds)) (is ∙ ap (map (line_data team names)) (take_all i ls ends))
