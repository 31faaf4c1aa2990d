-- What an edit does to the i-tables: one principal's table changes at one number, and no other table changes.
use Rattle.std.proofs.Common.{◌≡◌, ◌∙◌, sym, ap, refl, subst, ℕ, Bool, true, false, cond, not, List, [], ◌∷◌, map, nat_eq, Option, Some, None, T, ◌&&◌, arith}
use Rattle.std.specs.declared.cmp.Ordering.TheVariants.{Less, Equal, Greater}
use Rattle.std.specs.Ordering.{nat_cmp, ordering_then, is_eq, is_lt, eq_by_cmp}
use Rattle.std.specs.Cmp.{nat_cmp_total, nat_cmp_is}
use Rattle.std.specs.List.{filter}
use Rattle.std.specs.Option.{option_map}
use Rattle.std.specs.FinMap.Entries as by
use Rattle.std.specs.FinMap.{FinMap, entries, entries_sorted, entries-from_sorted, entries-insert, from_sorted, get, get-entries, same_map, nat_cmp-IsAntisymmetric}
use Rattle.std.proofs.lemmas.Bool.{eqb-true}
use Rattle.std.proofs.lemmas.Bool.Decides.{nat_tests}
use Rattle.su_bytes.specs.Place.{Place, place_cmp}
use Rattle.su_node.specs.Digest.{inode_digest}
use Rattle.su_node.specs.InodeChange.{set_key, inode_after}
use Rattle.su_node.proofs.Public.{get-set_key}
use Rattle.su_table.specs.Edit.{edit}
use Rattle.su_table.specs.Handle.{pairs_of, user_table, group_table}
use Rattle.su_table.specs.Table.{with_pair, ChangesOneTable}
use Rattle.su_table.proofs.Places.{place_cmp_total}

nat_cmp-same : (n : ℕ) → nat_cmp n n ≡ Equal
nat_cmp-same n = sym (nat_cmp_is n n Equal refl)

-- two places of one principal tie where their numbers do
tie_here : (u i : ℕ) (p : Place) → nat_eq p.0 u ≡ true → eq_by_cmp place_cmp (u, i) p ≡ eq_by_cmp nat_cmp i p.1
tie_here u i p same =
    ap (λ o. is_eq (ordering_then o (nat_cmp i p.1))) (ap (nat_cmp u) (eqb-true p.0 u same) ∙ nat_cmp-same u)

-- places of two principals don't
apart : (u i : ℕ) (p : Place) → nat_eq p.0 u ≡ false → eq_by_cmp place_cmp (u, i) p ≡ false
apart u i p other = elim (nat_cmp u p.0) as (λ o. nat_cmp u p.0 ≡ o → is_eq (ordering_then o (nat_cmp i p.1)) ≡ false) [
  | Less ↦ λ e. refl
  | Equal ↦ λ e. absurd (let bad : false ≡ true = sym other ∙ ap (λ n. nat_eq n u) (sym (nat_cmp-IsAntisymmetric u p.0 e)) ∙ grind (arith, nat_tests) in cc)
  | Greater ↦ λ e. refl
] refl

T_parts : (a b : Bool) → T (a && b) → T a × T b
T_parts true b h = (tt, h)
T_parts false b h = absurd h

T_both : (a b : Bool) → T a → T b → T (a && b)
T_both true b h k = k
T_both false b h k = absurd h

tie_turned : (a b : ℕ) → eq_by_cmp nat_cmp a b ≡ eq_by_cmp nat_cmp b a
tie_turned a b = grind (arith, nat_tests)

taken_out : {W : Type 0} (q i : ℕ) (w : Option W) → cond (eq_by_cmp nat_cmp q i) None w ≡ cond (not (eq_by_cmp nat_cmp i q)) w None
taken_out q i w = ap (λ b. cond b None w) (tie_turned q i) ∙ elim (eq_by_cmp nat_cmp i q) as (λ b. cond b None w ≡ cond (not b) w None) [ true ↦ refl | false ↦ refl ]

module _ {X W : Type 0} (value : X → W) (u : ℕ) where
  -- what a principal's table has at a number is made of what stands at the place
  pub find-pairs_of : (i : ℕ) (es : List (Place × X)) → by.find nat_cmp i (pairs_of value u es) ≡ option_map value (by.find place_cmp (u, i) es)
  find-pairs_of i [] = refl
  find-pairs_of i (e ∷ es) = elim (nat_eq e.0.0 u) as (λ b. nat_eq e.0.0 u ≡ b
      → by.find nat_cmp i (map (λ (x : Place × X). (x.0.1, value x.1)) (cond b (e ∷ filter (λ (x : Place × X). nat_eq x.0.0 u) es) (filter (λ (x : Place × X). nat_eq x.0.0 u) es)))
      ≡ option_map value (cond (eq_by_cmp place_cmp (u, i) e.0) (Some e.1) (by.find place_cmp (u, i) es))) [
        | true ↦ λ same. ap (λ b. cond b (Some (value e.1)) (by.find nat_cmp i (pairs_of value u es))) (sym (tie_here u i e.0 same))
            ∙ elim (eq_by_cmp place_cmp (u, i) e.0) as (λ b. cond b (Some (value e.1)) (by.find nat_cmp i (pairs_of value u es)) ≡ option_map value (cond b (Some e.1) (by.find place_cmp (u, i) es))) [
              | true ↦ refl
              | false ↦ find-pairs_of i es
            ]
        | false ↦ λ other. find-pairs_of i es ∙ ap (λ b. option_map value (cond b (Some e.1) (by.find place_cmp (u, i) es))) (sym (apart u i e.0 other))
      ] refl

  less_here : (i : ℕ) (p : Place) → nat_eq p.0 u ≡ true → T (is_lt (place_cmp (u, i) p)) → T (is_lt (nat_cmp i p.1))
  less_here i p same less = subst (λ o. T (is_lt (ordering_then o (nat_cmp i p.1)))) (ap (nat_cmp u) (eqb-true p.0 u same) ∙ nat_cmp-same u) less

  -- the numbers of one principal rise
  below_pairs : (i : ℕ) (es : List (Place × X)) → T (by.below_all place_cmp (u, i) es) → T (by.below_all nat_cmp i (pairs_of value u es))
  below_pairs i [] below = tt
  below_pairs i (e ∷ es) below =
      let parts = T_parts (is_lt (place_cmp (u, i) e.0)) (by.below_all place_cmp (u, i) es) below in
      let rest = below_pairs i es parts.1 in
      elim (nat_eq e.0.0 u) as (λ b. nat_eq e.0.0 u ≡ b → T (by.below_all nat_cmp i (map (λ (x : Place × X). (x.0.1, value x.1)) (cond b (e ∷ filter (λ (x : Place × X). nat_eq x.0.0 u) es) (filter (λ (x : Place × X). nat_eq x.0.0 u) es))))) [
        | true ↦ λ same. T_both (is_lt (nat_cmp i e.0.1)) (by.below_all nat_cmp i (pairs_of value u es)) (less_here i e.0 same parts.0) rest
        | false ↦ λ other. rest
      ] refl

  pub is_sorted-pairs_of : (es : List (Place × X)) → T (by.is_sorted place_cmp es) → T (by.is_sorted nat_cmp (pairs_of value u es))
  is_sorted-pairs_of [] sorted = tt
  is_sorted-pairs_of (e ∷ es) sorted =
      let parts = T_parts (by.below_all place_cmp e.0 es) (by.is_sorted place_cmp es) sorted in
      let rest = is_sorted-pairs_of es parts.1 in
      elim (nat_eq e.0.0 u) as (λ b. nat_eq e.0.0 u ≡ b → T (by.is_sorted nat_cmp (map (λ (x : Place × X). (x.0.1, value x.1)) (cond b (e ∷ filter (λ (x : Place × X). nat_eq x.0.0 u) es) (filter (λ (x : Place × X). nat_eq x.0.0 u) es))))) [
        | true ↦ λ same. T_both (by.below_all nat_cmp e.0.1 (pairs_of value u es)) (by.is_sorted nat_cmp (pairs_of value u es))
            (below_pairs e.0.1 es (subst (λ (v : ℕ). T (by.below_all place_cmp (v, e.0.1) es)) (eqb-true e.0.0 u same) parts.0)) rest
        | false ↦ λ other. rest
      ] refl

  -- ---- a value set at one place

  abbrev table : FinMap place_cmp X → FinMap nat_cmp W
  table m = from_sorted (pairs_of value u (entries m))

  entries-table : (m : FinMap place_cmp X) → entries (table m) ≡ pairs_of value u (entries m)
  entries-table m = entries-from_sorted nat_cmp (pairs_of value u (entries m)) (is_sorted-pairs_of (entries m) (entries_sorted m))

  get-table : (m : FinMap place_cmp X) (i : ℕ) → get (table m) i ≡ option_map value (get m (u, i))
  get-table m i = get-entries (table m) i ∙ ap (by.find nat_cmp i) (entries-table m) ∙ find-pairs_of i (entries m) ∙ ap (option_map value) (sym (get-entries m (u, i)))

  map_cond : (b : Bool) (v w : Option X) → option_map value (cond b v w) ≡ cond b (option_map value v) (option_map value w)
  map_cond true v w = refl
  map_cond false v w = refl

  table_here : (m : FinMap place_cmp X) (i : ℕ) (v : Option X) → table (set_key m (u, i) v) ≡ set_key (table m) i (option_map value v)
  table_here m i v = same_map nat_cmp_total nat_cmp-IsAntisymmetric _ _ (λ q.
      get-table (set_key m (u, i) v) q ∙ ap (option_map value) (get-set_key place_cmp_total m (u, i) v (u, q)) ∙ map_cond (eq_by_cmp place_cmp (u, q) (u, i)) v (get m (u, q))
      ∙ ap (λ b. cond b (option_map value v) (option_map value (get m (u, q)))) (tie_here u q (u, i) (grind (arith, nat_tests)))
      ∙ ap (cond (eq_by_cmp nat_cmp q i) (option_map value v)) (sym (get-table m q))
      ∙ sym (get-set_key nat_cmp_total (table m) i (option_map value v) q))

  -- a principal's table gets the value at its number, or loses it
  pub pairs_of-insert : (m : FinMap place_cmp X) (i : ℕ) (x : X) → pairs_of value u (entries (set_key m (u, i) (Some x))) ≡ by.put nat_cmp i (value x) (pairs_of value u (entries m))
  pairs_of-insert m i x =
      sym (entries-table (set_key m (u, i) (Some x))) ∙ ap entries (table_here m i (Some x)) ∙ entries-insert nat_cmp_total (table m) i (value x) ∙ ap (by.put nat_cmp i (value x)) (entries-table m)

  pub pairs_of-remove : (m : FinMap place_cmp X) (i : ℕ) → pairs_of value u (entries (set_key m (u, i) None)) ≡ by.where_key nat_cmp (λ k. not (eq_by_cmp nat_cmp i k)) (pairs_of value u (entries m))
  pairs_of-remove m i =
      let ps = pairs_of value u (entries m) in
      let kept : ℕ → Bool = λ k. not (eq_by_cmp nat_cmp i k) in
      by.same_entries nat_cmp nat_cmp_total nat_cmp-IsAntisymmetric (pairs_of value u (entries (set_key m (u, i) None))) (by.where_key nat_cmp kept ps)
      (is_sorted-pairs_of (entries (set_key m (u, i) None)) (entries_sorted (set_key m (u, i) None)))
      (by.is_sorted-where_key nat_cmp kept ps (is_sorted-pairs_of (entries m) (entries_sorted m)))
      (λ q.
      find-pairs_of q (entries (set_key m (u, i) None)) ∙ ap (option_map value) (sym (get-entries (set_key m (u, i) None) (u, q))) ∙ sym (get-table (set_key m (u, i) None) q)
      ∙ ap (λ t. get t q) (table_here m i None) ∙ get-set_key nat_cmp_total (table m) i None q
      ∙ ap (cond (eq_by_cmp nat_cmp q i) None) (get-entries (table m) q ∙ ap (by.find nat_cmp q) (entries-table m))
      ∙ taken_out q i (by.find nat_cmp q ps)
      ∙ sym (by.find-where_key nat_cmp kept q (λ x e. ap kept (sym (nat_cmp-IsAntisymmetric q x e))) ps))

  -- and no other principal's table changes
  pub pairs_of-elsewhere : (m : FinMap place_cmp X) (p : Place) (v : Option X) → nat_eq p.0 u ≡ false → pairs_of value u (entries (set_key m p v)) ≡ pairs_of value u (entries m)
  pairs_of-elsewhere m p v other =
      sym (entries-table (set_key m p v))
      ∙ ap entries (same_map nat_cmp_total nat_cmp-IsAntisymmetric (table (set_key m p v)) (table m) (λ q.
      get-table (set_key m p v) q ∙ ap (option_map value) (get-set_key place_cmp_total m p v (u, q) ∙ ap (λ b. cond b v (get m (u, q))) (apart u q p other)) ∙ sym (get-table m q)))
      ∙ entries-table m

  set_at : (m : FinMap place_cmp X) (i : ℕ) (v : Option X) → pairs_of value u (entries (set_key m (u, i) v)) ≡ with_pair i (option_map value v) (pairs_of value u (entries m))
  set_at m i None = pairs_of-remove m i
  set_at m i (Some x) = pairs_of-insert m i x

  pub pairs_of-set : (m : FinMap place_cmp X) (p : Place) (v : Option X)
      → pairs_of value u (entries (set_key m p v)) ≡ cond (nat_eq p.0 u) (with_pair p.1 (option_map value v) (pairs_of value u (entries m))) (pairs_of value u (entries m))
  pairs_of-set m p v = elim (nat_eq p.0 u) as (λ b. nat_eq p.0 u ≡ b
      → pairs_of value u (entries (set_key m p v)) ≡ cond b (with_pair p.1 (option_map value v) (pairs_of value u (entries m))) (pairs_of value u (entries m))) [
        | true ↦ λ same. ap (λ (w : ℕ). pairs_of value u (entries (set_key m (w, p.1) v))) (eqb-true p.0 u same) ∙ set_at m p.1 v
        | false ↦ λ other. pairs_of-elsewhere m p v other
      ] refl

-- ---- edits

map_same : {X : Type 0} (v : Option X) → option_map (λ (x : X). x) v ≡ v
map_same None = refl
map_same (Some x) = refl

pub edits_change_one_table : ChangesOneTable
unfolding user_table group_table edit
edits_change_one_table = record {
  of_user = λ T p ch u. pairs_of-set inode_digest u T.inodes p (inode_after ch (get T.inodes p));
  of_group = λ T f v g.
      pairs_of-set (λ p. p) g T.pointers f v
      ∙ ap (λ w. cond (nat_eq f.0 g) (with_pair f.1 w (pairs_of (λ (p : Place). p) g (entries T.pointers))) (pairs_of (λ (p : Place). p) g (entries T.pointers))) (map_same v);
  no_group = λ T p ch g. refl;
  no_user = λ T f v u. refl;
}
