-- What lines tell, and that the lines of a map tell that map.
use Rattle.std.proofs.Common.{◌≡◌, ℕ, Bool, true, false, cond, List, [], ◌∷◌, ◌++◌, Option, Some, None, is_some, ◌&&◌, T, refl, sym, ap, ◌∙◌}
use Rattle.std.specs.Cmp.Lexicographic.{slice_cmp, nat_list_cmp_total}
use Rattle.std.specs.FinMap.{get, insert, empty, entries, entries_sorted, find, is_sorted, get-entries, get-empty, get-insert, same_map, nat_cmp-IsAntisymmetric, slice_cmp-IsAntisymmetric}
use Rattle.std.specs.FinMap.Entries.{below_all, find_tied}
use Rattle.std.specs.Ordering.{nat_cmp, eq_by_cmp, is_eq, is_lt}
use Rattle.std.specs.declared.cmp.Ordering.{Ordering}
use Rattle.std.specs.declared.cmp.Ordering.TheVariants.{Less, Equal, Greater}
use Rattle.su_seen.specs.Seen.{Seen, told_by}

pub told_by-append : (seen : Seen) (files : List (List ℕ × ℕ)) (file : List ℕ × ℕ) → told_by seen (files ++ file ∷ []) ≡ insert (told_by seen files) file.0 file.1
told_by-append seen [] file = refl
told_by-append seen (first ∷ files) file = told_by-append (insert seen first.0 first.1) files file

both : (a b : Bool) → T (a && b) → T a × T b
both true b p = (tt, p)
both false b p = absurd p

less : (r : Ordering) → T (is_lt r) → r ≡ Less
less Less p = refl
less Equal p = absurd p
less Greater p = absurd p

tied : (r : Ordering) → is_eq r ≡ true → r ≡ Equal
tied Less e = cc e
tied Equal e = refl
tied Greater e = cc e

none_below : (path : List ℕ) (es : List (List ℕ × ℕ)) → T (below_all (slice_cmp nat_cmp) path es) → find (slice_cmp nat_cmp) path es ≡ None
none_below path [] below = refl
none_below path (e ∷ es) below =
    let parts = both _ _ below in
    ap (λ r. cond (is_eq r) (Some e.1) (find (slice_cmp nat_cmp) path es)) (less _ parts.0) ∙ none_below path es parts.1

-- of what is told last, and else of what was there
told_get : (seen : Seen) (es : List (List ℕ × ℕ)) (q : List ℕ) → T (is_sorted (slice_cmp nat_cmp) es)
    → get (told_by seen es) q ≡ cond (is_some (find (slice_cmp nat_cmp) q es)) (find (slice_cmp nat_cmp) q es) (get seen q)
told_get seen [] q sorted = refl
told_get seen (e ∷ es) q sorted =
    let parts = both _ _ sorted in
    let rest = told_get (insert seen e.0 e.1) es q parts.1 in
    let inserted = get-insert nat_list_cmp_total seen e.0 e.1 q in
    elim (eq_by_cmp (slice_cmp nat_cmp) q e.0) as (λ b. eq_by_cmp (slice_cmp nat_cmp) q e.0 ≡ b → get (told_by seen (e ∷ es)) q
    ≡ cond (is_some (cond b (Some e.1) (find (slice_cmp nat_cmp) q es))) (cond b (Some e.1) (find (slice_cmp nat_cmp) q es)) (get seen q)) [
      | true ↦ λ same.
          let none : find (slice_cmp nat_cmp) q es ≡ None =
          sym (find_tied (slice_cmp nat_cmp) nat_list_cmp_total q e.0 (tied _ same) es) ∙ none_below e.0 es parts.0 in
          rest ∙ ap (λ f. cond (is_some f) f (get (insert seen e.0 e.1) q)) none ∙ inserted ∙ ap (λ b. cond b (Some e.1) (get seen q)) same
      | false ↦ λ apart.
          rest ∙ ap (λ g. cond (is_some (find (slice_cmp nat_cmp) q es)) (find (slice_cmp nat_cmp) q es) g)
          (inserted ∙ ap (λ b. cond b (Some e.1) (get seen q)) apart)
    ] refl

itself : (o : Option ℕ) → cond (is_some o) o None ≡ o
itself None = refl
itself (Some n) = refl

pub told_entries : (seen : Seen) → told_by empty (entries seen) ≡ seen
told_entries seen =
    same_map nat_list_cmp_total (slice_cmp-IsAntisymmetric nat_cmp-IsAntisymmetric) _ _
    (λ q. told_get empty (entries seen) q (entries_sorted seen)
    ∙ ap (λ g. cond (is_some (find (slice_cmp nat_cmp) q (entries seen))) (find (slice_cmp nat_cmp) q (entries seen)) g) (get-empty (slice_cmp nat_cmp) q)
    ∙ itself (find (slice_cmp nat_cmp) q (entries seen)) ∙ sym (get-entries seen q))
