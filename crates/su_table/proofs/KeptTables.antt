-- The tables that a forest keeps beside its maps, after a change at one place.
use Rattle.std.proofs.Common.{◌≡◌, ◌≢◌, ◌∙◌, sym, ap, refl, ℕ, ◌<◌, ◌≤◌, Bool, true, false, cond, nat_eq, not, is_some, IsTrue, List, [], replicate, length, set, get_or, Option, Some, None, arith, subst}
use Rattle.std.specs.Prelude.{IsSome}
use Rattle.std.specs.Ordering.{nat_cmp}
use Rattle.std.specs.BTreeMap.{is_at}
use Rattle.std.specs.Option.{option_map}
use Rattle.std.specs.FinMap.{FinMap, entries, from_entries, get-entries}
use Rattle.std.specs.FinMap.Entries.{find}
use Rattle.std.proofs.lemmas.Bool.{eqb-true, leb-true, le-leb}
use Rattle.std.proofs.lemmas.Bool.Decides.{nat_tests}
use Rattle.std.proofs.lemmas.List.{get_or-set_same, get_or-set_other, get_or-replicate, length-replicate, length-set}
use Rattle.std.specs.List.Sorted.{IsStrictlySortedBy}
use Rattle.su_bytes.specs.Principal.{is_user, is_group}
use Rattle.su_bytes.specs.Place.{Place, place_cmp}
use Rattle.su_node.proofs.Public.{entries-from_entries, from_entries-updates, get-from_entries_lookup, set_key-get, set_key-set_key}
use Rattle.su_node.specs.InodeChange.{set_key}
use Rattle.su_table.specs.Handle.{pairs_of}
use Rattle.su_table.specs.Table.{with_pair}
use Rattle.su_table.specs.Free.{has_none}
use Rattle.su_table.specs.Kept.{AreTables, table_in}
use Rattle.su_table.proofs.Places.{place_cmp_total, place_cmp_exact}
use Rattle.su_table.proofs.Stores.{at_place}
use Rattle.su_table.proofs.TableEdits.{find-pairs_of, pairs_of-set}

-- ---- the tables of a map's entries

module _ {X W : Type 0} (value : X → W) (is_principal : ℕ → Bool) where
  abbrev pub Kept : List (Place × X) → List (List (ℕ × W)) → Type 0
  Kept es tables = AreTables is_principal (table_in value es) tables

  -- the tables after a value was set at a place, or taken away
  pub tables_after : (m : FinMap place_cmp X) (tables new : List (List (ℕ × W))) (p : Place) (v : Option X)
      → AreTables is_principal (λ u. pairs_of value u (entries m)) tables → IsTrue (is_principal p.0)
      → new ≡ set tables p.0 (with_pair p.1 (option_map value v) (get_or tables p.0 []))
      → AreTables is_principal (λ u. pairs_of value u (entries (set_key m p v))) new
  tables_after m tables new p v are h new_is = record {
    within = λ u hu. let w = are.within u hu in omega (arith, w, ap length new_is, length-set tables p.0 (with_pair p.1 (option_map value v) (get_or tables p.0 [])));
    each = λ u hu. ap (λ ts. get_or ts u []) new_is ∙ go u hu (nat_eq p.0 u) refl ∙ sym (pairs_of-set value u m p v);
  }
    where
      w : List (ℕ × W)
      w = with_pair p.1 (option_map value v) (get_or tables p.0 [])

      other : (u : ℕ) → nat_eq p.0 u ≡ false → p.0 ≢ u
      other u e x = absurd (let bad : false ≡ true = sym e ∙ ap (nat_eq p.0) (sym x) ∙ grind (arith, nat_tests) in cc)

      go : (u : ℕ) → IsTrue (is_principal u) → (b : Bool) → nat_eq p.0 u ≡ b
          → get_or (set tables p.0 w) u [] ≡ cond b (with_pair p.1 (option_map value v) (pairs_of value u (entries m))) (pairs_of value u (entries m))
      go u hu true e =
          let same : p.0 ≡ u = eqb-true p.0 u e in
          ap (λ k. get_or (set tables p.0 w) k []) (sym same) ∙ get_or-set_same tables p.0 w [] (are.within p.0 h)
          ∙ ap (with_pair p.1 (option_map value v)) (are.each p.0 h ∙ ap (λ k. pairs_of value k (entries m)) same)
      go u hu false e = get_or-set_other tables p.0 u w [] (λ x. omega (arith, other u e, x)) ∙ are.each u hu

  -- of entries that differ at one place
  pub kept_after : (es fs : List (Place × X)) (tables new : List (List (ℕ × W))) (p : Place) (v : Option X)
      → Kept es tables → IsTrue (is_principal p.0) → ((q : Place) → at_place fs q ≡ cond (is_at (place_cmp p) q) v (at_place es q))
      → new ≡ set tables p.0 (with_pair p.1 (option_map value v) (get_or tables p.0 [])) → Kept fs new
  kept_after es fs tables new p v are h differ new_is =
      subst (λ (m : FinMap place_cmp X). AreTables is_principal (λ u. pairs_of value u (entries m)) new) (sym (from_entries-updates place_cmp_total place_cmp_exact es fs p v differ))
      (tables_after (from_entries es) tables new p v are h new_is)

  -- what a table has at a number is made of what stands at the place
  pub kept_at : (es : List (Place × X)) (tables : List (List (ℕ × W))) (p : Place) → Kept es tables → IsTrue (is_principal p.0)
      → find nat_cmp p.1 (get_or tables p.0 []) ≡ option_map value (at_place es p)
  kept_at es tables p are h =
      let m : FinMap place_cmp X = from_entries es in
      ap (find nat_cmp p.1) (are.each p.0 h) ∙ find-pairs_of value p.0 p.1 (entries m) ∙ ap (option_map value) (sym (get-entries m p) ∙ get-from_entries_lookup place_cmp_total es p)

  -- where something stands, the table has the number
  pub kept_there : (es : List (Place × X)) (tables : List (List (ℕ × W))) (p : Place) (x : X) → Kept es tables → IsTrue (is_principal p.0) → Some x ≡ at_place es p
      → IsSome (find nat_cmp p.1 (get_or tables p.0 []))
  kept_there es tables p x are h found = subst IsSome (sym (kept_at es tables p are h ∙ ap (option_map value) (sym found))) refl

  none_from : (o : Option X) → option_map value o ≡ None → o ≡ None
  none_from None e = refl
  none_from (Some x) e = cc

  -- where the table lacks the number, nothing stands
  pub kept_absent : (es : List (Place × X)) (tables : List (List (ℕ × W))) (p : Place) → Kept es tables → IsTrue (is_principal p.0) → find nat_cmp p.1 (get_or tables p.0 []) ≡ None
      → at_place es p ≡ None
  kept_absent es tables p are h none = none_from (at_place es p) (sym (kept_at es tables p are h) ∙ none)

  -- ---- told by the number of a principal

  -- the table lacks a number where nothing stands
  pub kept_lacks : (es : List (Place × X)) (tables : List (List (ℕ × W))) (n : ℕ) (p : Place) → Kept es tables → n ≡ p.0 → IsTrue (is_principal p.0)
      → has_none (get_or tables n []) p.1 ≡ not (is_some (at_place es p))
  kept_lacks es tables n p are at h =
      ap (λ k. has_none (get_or tables k []) p.1) at ∙ ap (λ o. not (is_some o)) (kept_at es tables p are h)
      ∙ elim (at_place es p) as (λ o. not (is_some (option_map value o)) ≡ not (is_some o)) [ None ↦ refl | Some x ↦ refl ]

  pub number_within : (es : List (Place × X)) (tables : List (List (ℕ × W))) (n : ℕ) (p : Place) → Kept es tables → n ≡ p.0 → IsTrue (is_principal p.0) → n < length tables
  number_within es tables n p are at h = subst (λ k. k < length tables) (sym at) (are.within p.0 h)

  pub number_there : (es : List (Place × X)) (tables : List (List (ℕ × W))) (n : ℕ) (p : Place) (x : X) → Kept es tables → n ≡ p.0 → IsTrue (is_principal p.0) → Some x ≡ at_place es p
      → IsSome (find nat_cmp p.1 (get_or tables n []))
  number_there es tables n p x are at h found = subst (λ k. IsSome (find nat_cmp p.1 (get_or tables k []))) (sym at) (kept_there es tables p x are h found)

  -- a value put at a place, and into its principal's table
  pub kept_put : (es fs : List (Place × X)) (tables new : List (List (ℕ × W))) (n : ℕ) (p : Place) (x : X) (w : W) → Kept es tables → n ≡ p.0 → IsTrue (is_principal p.0)
      → ((q : Place) → at_place fs q ≡ cond (is_at (place_cmp p) q) (Some x) (at_place es q)) → w ≡ value x
      → new ≡ set tables n (with_pair p.1 (Some w) (get_or tables n [])) → Kept fs new
  kept_put es fs tables new n p x w are at h differ is new_is =
      kept_after es fs tables new p (Some x) are h differ (new_is ∙ (λ i. set tables (at i) (with_pair p.1 (Some (is i)) (get_or tables (at i) []))))

  -- what stands at a place taken away, and out of its principal's table
  pub kept_taken : (es fs : List (Place × X)) (tables new : List (List (ℕ × W))) (n : ℕ) (p : Place) → Kept es tables → n ≡ p.0 → IsTrue (is_principal p.0)
      → ((q : Place) → at_place fs q ≡ cond (is_at (place_cmp p) q) None (at_place es q))
      → new ≡ set tables n (with_pair p.1 None (get_or tables n [])) → Kept fs new
  kept_taken es fs tables new n p are at h differ new_is =
      kept_after es fs tables new p None are h differ (new_is ∙ (λ i. set tables (at i) (with_pair p.1 None (get_or tables (at i) []))))

  -- entries that make the same map
  pub kept_same : (es fs : List (Place × X)) (tables new : List (List (ℕ × W))) → Kept es tables → from_entries {R = place_cmp} fs ≡ from_entries es → new ≡ tables → Kept fs new
  kept_same es fs tables new are same new_is =
      subst (λ (m : FinMap place_cmp X). AreTables is_principal (λ u. pairs_of value u (entries m)) new) (sym same)
      (subst (λ ts. AreTables is_principal (table_in value es) ts) (sym new_is) are)

-- ---- put where nothing stood, and taken away again

pub put_and_taken : {X : Type 0} (es fs gs : List (Place × X)) (p : Place) (x : X) → at_place es p ≡ None
    → ((q : Place) → at_place fs q ≡ cond (is_at (place_cmp p) q) (Some x) (at_place es q)) → ((q : Place) → at_place gs q ≡ cond (is_at (place_cmp p) q) None (at_place fs q))
    → from_entries {R = place_cmp} gs ≡ from_entries es
put_and_taken es fs gs p x none more less =
    from_entries-updates place_cmp_total place_cmp_exact fs gs p None less
    ∙ ap (λ (m : FinMap place_cmp _). set_key m p None) (from_entries-updates place_cmp_total place_cmp_exact es fs p (Some x) more)
    ∙ set_key-set_key place_cmp_total place_cmp_exact (from_entries es) p (Some x) None
    ∙ set_key-get place_cmp_total place_cmp_exact (from_entries es) p None (get-from_entries_lookup place_cmp_total es p ∙ none)

-- ---- the numbers that principals have

pub user_is : (n u : ℕ) → n ≡ u → n ≤ 63 → IsTrue (is_user u)
user_is n u e h = le-leb u 63 (omega (arith, e, h))

pub group_is : (n g : ℕ) → n ≡ g → n ≤ 15 → IsTrue (is_group g)
group_is n g e h = le-leb g 15 (omega (arith, e, h))

pub few_users : (u : ℕ) → IsTrue (is_user u) → u < 64
few_users u h = let l = leb-true u 63 h in omega arith

pub few_groups : (g : ℕ) → IsTrue (is_group g) → g < 16
few_groups g h = let l = leb-true g 15 h in omega arith

-- ---- no entries

no_entries : {X : Type 0} → entries (from_entries {X = X} {R = place_cmp} []) ≡ []
unfolding IsStrictlySortedBy
no_entries = entries-from_entries place_cmp_total [] tt

module _ {X W : Type 0} (value : X → W) where
  pub kept_none : (is_principal : ℕ → Bool) (count : ℕ) (es : List (Place × X)) (tables : List (List (ℕ × W))) → ((u : ℕ) → IsTrue (is_principal u) → u < count)
      → es ≡ [] → tables ≡ replicate count [] → AreTables is_principal (table_in value es) tables
  kept_none is_principal count es tables few none are = record {
    within = λ u h. let l = ap length are in let m = length-replicate {A = List (ℕ × W)} count [] in omega (arith, l, m, few u h);
    each = λ u h.
        ap (λ ts. get_or ts u []) are ∙ get_or-replicate count u [] [] (few u h)
        ∙ sym (ap (λ (xs : List (Place × X)). pairs_of value u (entries (from_entries {R = place_cmp} xs))) none ∙ ap (pairs_of value u) no_entries);
  }
