-- What is found of the paths that are kept, and how one more is kept.
use Rattle.std.proofs.Common.{◌≡◌, ◌∙◌, refl, sym, ap, ℕ, cond, true, false, List, Option, Some, None}
use Rattle.std.specs.Cmp.{eq_by_cmp_equiv}
use Rattle.std.specs.Option.{is_some, unwrap_or}
use Rattle.std.specs.Ordering.{nat_cmp}
use Rattle.std.specs.Cmp.Lexicographic.{slice_cmp, nat_list_cmp_total}
use Rattle.std.specs.Map.{lookup}
use Rattle.std.specs.BTreeMap.{is_at}
use Rattle.std.specs.FinMap.{get, get-insert, insert, from_entries, IsAntisymmetric, slice_cmp-IsAntisymmetric, nat_cmp-IsAntisymmetric}
use Rattle.su_node.proofs.Public.{from_entries-updates, get-from_entries_lookup}
use Rattle.su_history_text.specs.FileNames.{Names}

abbrev pub found : List (List ℕ × List ℕ) → List ℕ → Option (List ℕ)
found es key = lookup (is_at (slice_cmp nat_cmp key)) es

same_keys : IsAntisymmetric (slice_cmp nat_cmp)
same_keys = slice_cmp-IsAntisymmetric nat_cmp-IsAntisymmetric

pub get-found : (es : List (List ℕ × List ℕ)) (names : Names) (key : List ℕ) (o : Option (List ℕ)) → from_entries es ≡ names → o ≡ found es key → get names key ≡ o
get-found es names key o is e = ap (λ (m : Names). get m key) (sym is) ∙ get-from_entries_lookup nat_list_cmp_total es key ∙ sym e

-- a key that is there
pub put-kept : (es : List (List ℕ × List ℕ)) (names : Names) (key at path : List ℕ) → from_entries es ≡ names → at ≡ key → is_some (found es at) ≡ true
    → names ≡ cond (is_some (get names key)) names (insert names key path)
put-kept es names key at path is same there =
    let here : is_some (get names key) ≡ true = ap is_some (get-found es names key (found es at) is (ap (found es) same)) ∙ there in
    ap (λ b. cond b names (insert names key path)) (sym here)

-- one that isn't
pub put-new : (es fs : List (List ℕ × List ℕ)) (names : Names) (key at path bytes : List ℕ) → from_entries es ≡ names → at ≡ key → bytes ≡ path → is_some (found es at) ≡ false
    → ((q : List ℕ) → found fs q ≡ cond (is_at (slice_cmp nat_cmp at) q) (Some bytes) (found es q))
    → from_entries fs ≡ cond (is_some (get names key)) names (insert names key path)
put-new es fs names key at path bytes is same told none updates =
    let here : is_some (get names key) ≡ false = ap is_some (get-found es names key (found es at) is (ap (found es) same)) ∙ none in
    from_entries-updates nat_list_cmp_total same_keys es fs at (Some bytes) updates
    ∙ ap (λ (m : Names). insert m at bytes) is
    ∙ ap (λ k. insert names k bytes) same ∙ ap (insert names key) told
    ∙ ap (λ b. cond b names (insert names key path)) (sym here)

-- what is found then
pub get-kept_first : (names : Names) (key path : List ℕ) → get (cond (is_some (get names key)) names (insert names key path)) key ≡ Some (unwrap_or (get names key) path)
get-kept_first names key path = go (get names key) refl
  where
    go : (o : Option (List ℕ)) → get names key ≡ o → get (cond (is_some o) names (insert names key path)) key ≡ Some (unwrap_or o path)
    go None is = get-insert nat_list_cmp_total names key path key ∙ ap (λ b. cond b (Some path) (get names key)) ((eq_by_cmp_equiv nat_list_cmp_total).refl key)
    go (Some p) is = is
