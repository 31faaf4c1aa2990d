-- What is kept of a map, by the bytes of its paths.
use Rattle.std.proofs.Common.{◌≡◌, ℕ, cond, List, [], ◌∷◌, length, Some, T, refl, sym, ap, subst, ◌∙◌}
use Rattle.std.proofs.lemmas.List.{length-map}
use Rattle.std.specs.BTreeMap.{insert_entry, is_at}
use Rattle.std.specs.Cmp.Lexicographic.{slice_cmp, nat_list_cmp_total}
use Rattle.std.specs.FinMap.{get, insert, empty, len, entries, find, put, is_sorted, get-from_sorted, entries-from_sorted, entries-insert, len-entries, empty_of_len, same_entries_map}
use Rattle.std.specs.FinMap.Entries.{by_order, is_sorted-put}
use Rattle.std.specs.Global.{Vec}
use Rattle.std.specs.Map.{lookup}
use Rattle.std.specs.Ordering.{nat_cmp, eq_by_cmp, match_ordering}
use Rattle.std.specs.declared.cmp.Ordering.TheVariants.{Less, Equal, Greater}
use Rattle.su_seen.specs.Kept.{AreSorted, by_bytes, seen_of}
use Rattle.su_seen.specs.Seen.{Seen}

by_bytes-insert_entry : (kept : List (Vec ℕ × ℕ)) (path : Vec ℕ) (n : ℕ)
    → by_bytes (insert_entry (λ x y. slice_cmp nat_cmp x.items y.items) kept path n) ≡ put (slice_cmp nat_cmp) path.items n (by_bytes kept)
by_bytes-insert_entry [] path n = refl
by_bytes-insert_entry (e ∷ kept) path n =
    let rest = by_bytes-insert_entry kept path n in
    elim (slice_cmp nat_cmp path.items e.0.items) as (λ r. by_bytes (match_ordering r ((path, n) ∷ e ∷ kept) ((e.0, n) ∷ kept)
    (e ∷ insert_entry (λ x y. slice_cmp nat_cmp x.items y.items) kept path n))
    ≡ by_order r ((path.items, n) ∷ by_bytes (e ∷ kept)) ((e.0.items, n) ∷ by_bytes kept) ((e.0.items, e.1) ∷ put (slice_cmp nat_cmp) path.items n (by_bytes kept))) [
      | Less ↦ refl
      | Equal ↦ refl
      | Greater ↦ ap (λ it. (e.0.items, e.1) ∷ it) rest
    ]

lookup-by_bytes : (kept : List (Vec ℕ × ℕ)) (q : List ℕ)
    → lookup (is_at (λ k. slice_cmp nat_cmp q k.items)) kept ≡ find (slice_cmp nat_cmp) q (by_bytes kept)
lookup-by_bytes [] q = refl
lookup-by_bytes (e ∷ kept) q = ap (cond (eq_by_cmp (slice_cmp nat_cmp) q e.0.items) (Some e.1)) (lookup-by_bytes kept q)

pub kept_entries : (kept : List (Vec ℕ × ℕ)) → AreSorted kept → entries (seen_of kept) ≡ by_bytes kept
kept_entries kept sorted = entries-from_sorted (slice_cmp nat_cmp) (by_bytes kept) sorted

pub none_kept : (kept : List (Vec ℕ × ℕ)) → kept ≡ [] → seen_of kept ≡ empty
none_kept kept e = ap seen_of e ∙ empty_of_len _ (len-entries _ ∙ ap length (kept_entries [] tt))

pub kept_len : (kept : List (Vec ℕ × ℕ)) → AreSorted kept → length kept ≡ len (seen_of kept)
kept_len kept sorted = sym (len-entries _ ∙ ap length (kept_entries kept sorted) ∙ length-map kept (λ e. (e.0.items, e.1)))

pub kept_get : (kept : List (Vec ℕ × ℕ)) (q : List ℕ) → AreSorted kept
    → lookup (is_at (λ k. slice_cmp nat_cmp q k.items)) kept ≡ get (seen_of kept) q
kept_get kept q sorted = lookup-by_bytes kept q ∙ sym (get-from_sorted (slice_cmp nat_cmp) (by_bytes kept) q sorted)

pub kept_sorted : (kept more : List (Vec ℕ × ℕ)) (path : Vec ℕ) (n : ℕ) → AreSorted kept
    → more ≡ insert_entry (λ x y. slice_cmp nat_cmp x.items y.items) kept path n → AreSorted more
kept_sorted kept more path n sorted e =
    subst (λ it. T (is_sorted (slice_cmp nat_cmp) it)) (sym (ap by_bytes e ∙ by_bytes-insert_entry kept path n))
    (is_sorted-put (slice_cmp nat_cmp) nat_list_cmp_total path.items n (by_bytes kept) sorted)

pub kept_insert : (kept more : List (Vec ℕ × ℕ)) (path : Vec ℕ) (bytes : List ℕ) (n : ℕ) (seen : Seen) → AreSorted kept
    → more ≡ insert_entry (λ x y. slice_cmp nat_cmp x.items y.items) kept path n → path.items ≡ bytes → seen_of kept ≡ seen → seen_of more ≡ insert seen bytes n
kept_insert kept more path bytes n seen sorted e same view =
    let inserted : seen_of more ≡ insert (seen_of kept) path.items n =
    same_entries_map _ _ (kept_entries more (kept_sorted kept more path n sorted e) ∙ ap by_bytes e ∙ by_bytes-insert_entry kept path n
    ∙ ap (put (slice_cmp nat_cmp) path.items n) (sym (kept_entries kept sorted)) ∙ sym (entries-insert nat_list_cmp_total (seen_of kept) path.items n)) in
    inserted ∙ ap (λ it. insert (seen_of kept) it n) same ∙ ap (λ it. insert it bytes n) view
