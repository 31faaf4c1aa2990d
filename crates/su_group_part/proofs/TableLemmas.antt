-- A group's i-table in a tree whose values are in their ranges.
use Rattle.std.proofs.Common.{◌≡◌, ◌∙◌, ◌<◌, ◌^◌, ℕ, Bool, true, false, cond, IsTrue, T as Holds, List, [], ◌∷◌, map, nat_eq, Some, None, ap, refl, sym, subst, arith, ◌&&◌}
use Rattle.std.specs.List.{AllByRecursion as Each, filter}
use Rattle.std.specs.List.Sorted.{IsStrictlySortedBy}
use Rattle.std.specs.Map.{keys_of}
use Rattle.std.specs.Cmp.{eq_by_cmp_equiv}
use Rattle.std.specs.Ordering.{nat_cmp, eq_by_cmp, is_eq, is_lt, ordering_reverse}
use Rattle.std.specs.declared.cmp.Ordering.{Ordering}
use Rattle.std.specs.declared.cmp.Ordering.TheVariants.{Less, Equal, Greater}
use Rattle.std.specs.FinMap.{get, entries, entries_sorted, get-entries}
use Rattle.std.specs.FinMap.Entries as by
use Rattle.std.proofs.lemmas.Bool.{and_from, eqb-true}
use Rattle.std.proofs.lemmas.Bool.Decides.{nat_tests}
use Rattle.su_bytes.specs.Place.{Place, place_cmp, is_place}
use Rattle.su_bytes.specs.declared.principals.Principal.TheVariants.{Group}
use Rattle.su_tree.specs.Bits.{bits_cmp}
use Rattle.su_tree.specs.Number.{number_bits, is_u32}
use Rattle.su_tree.specs.Laws.Numbers as number
use Rattle.su_tree.proofs.Sorted.{Rising, tree_of_rising, sorted_entries}
use Rattle.su_hash_tree.specs.Stands.{IsMap}
use Rattle.su_hash_tree.proofs.Compared.{keys_meant}
use Rattle.su_table.specs.Tree.{Tree}
use Rattle.su_table.specs.Handle.{pairs_of, group_table, handle}
use Rattle.su_table.proofs.Places.{place_cmp_total}
use Rattle.su_table.proofs.TableEdits.{is_sorted-pairs_of}
use Rattle.su_group_part.specs.Part.{place_sort, IsMeantPlace, MeantGroup}

is_number : (n : ℕ) → n < 2 ^ 32 → IsTrue (is_u32 n)
is_number n h = grind (arith, nat_tests, h)

-- ---- numbers that rise

number_above : {V : Type 0} (e : ℕ × V) (es : List (ℕ × V)) → IsTrue (is_u32 e.0) → Each (λ f. IsTrue (is_u32 f.0)) es
    → Each (λ k. nat_cmp e.0 k ≡ Less) (keys_of es) → Each (λ f. bits_cmp (number_bits e.0) (number_bits f.0) ≡ Less) es
number_above e [] h a s = tt
number_above e (f ∷ es) h a s = (sym (number.ordered e.0 f.0 h a.0) ∙ s.0, number_above e es h a.1 s.1)

numbers_rise : {V : Type 0} (es : List (ℕ × V)) → Each (λ e. IsTrue (is_u32 e.0)) es → IsStrictlySortedBy nat_cmp (keys_of es) → Rising number_bits es
unfolding IsStrictlySortedBy
numbers_rise [] a s = tt
numbers_rise (e ∷ es) a s = (number_above e es a.0 a.1 s.0, numbers_rise es a.1 s.1)

-- ---- each entry of a map is what is found at its key

is_less : (o : Ordering) → Holds (is_lt o) → o ≡ Less
is_less Less h = refl
is_less Equal h = absurd h
is_less Greater h = absurd h

parts : (a b : Bool) → Holds (a && b) → Holds a × Holds b
parts true b h = (tt, h)
parts false b h = absurd h

-- a later key is another one
apart : (p q : Place) → Holds (is_lt (place_cmp p q)) → eq_by_cmp place_cmp q p ≡ false
apart p q less = ap is_eq (place_cmp_total.antisymm q p ∙ ap ordering_reverse (is_less (place_cmp p q) less))

found_later : (e : Place × Place) (es fs : List (Place × Place)) → Holds (by.below_all place_cmp e.0 fs) → Each (λ (f : Place × Place). by.find place_cmp f.0 es ≡ Some f.1) fs
    → Each (λ (f : Place × Place). by.find place_cmp f.0 (e ∷ es) ≡ Some f.1) fs
found_later e es [] below a = tt
found_later e es (f ∷ fs) below a =
    let both = parts (is_lt (place_cmp e.0 f.0)) (by.below_all place_cmp e.0 fs) below in
    (ap (λ b. cond b (Some e.1) (by.find place_cmp f.0 es)) (apart e.0 f.0 both.0) ∙ a.0, found_later e es fs both.1 a.1)

found_all : (es : List (Place × Place)) → Holds (by.is_sorted place_cmp es) → Each (λ (e : Place × Place). by.find place_cmp e.0 es ≡ Some e.1) es
found_all [] s = tt
found_all (e ∷ es) s =
    let both = parts (by.below_all place_cmp e.0 es) (by.is_sorted place_cmp es) s in (
      ap (λ b. cond b (Some e.1) (by.find place_cmp e.0 es)) ((eq_by_cmp_equiv place_cmp_total).refl e.0),
      found_later e es es both.0 (found_all es both.1),
    )

module _ (g : ℕ) (T : Tree) (meant : MeantGroup g T) where
  pairs_good : (es : List (Place × Place)) → Each (λ (e : Place × Place). by.find place_cmp e.0 (entries T.pointers) ≡ Some e.1) es
      → Each (λ (e : ℕ × Place). IsTrue (is_u32 e.0 && is_place e.1)) (pairs_of (λ (p : Place). p) g es)
  pairs_good [] a = tt
  pairs_good (e ∷ es) a = go (nat_eq e.0.0 g) refl (pairs_good es a.1)
    where
      at : nat_eq e.0.0 g ≡ true → get T.pointers (g, e.0.1) ≡ Some e.1
      at same = get-entries T.pointers (g, e.0.1) ∙ subst (λ (v : ℕ). by.find place_cmp (v, e.0.1) (entries T.pointers) ≡ Some e.1) (eqb-true e.0.0 g same) a.0

      go : (b : Bool) → nat_eq e.0.0 g ≡ b → Each (λ (f : ℕ × Place). IsTrue (is_u32 f.0 && is_place f.1)) (pairs_of (λ (p : Place). p) g es)
          → Each (λ (f : ℕ × Place). IsTrue (is_u32 f.0 && is_place f.1)) (map (λ (x : Place × Place). (x.0.1, x.1)) (cond b (e ∷ filter (λ (x : Place × Place). nat_eq x.0.0 g) es) (filter (λ (x : Place × Place). nat_eq x.0.0 g) es)))
      go true same rest =
          let there = at same in
          (and_from (is_u32 e.0.1) (is_place e.1) (is_number e.0.1 (meant.numbers e.0.1 (λ none. absurd (let z : Some e.1 ≡ None = sym there ∙ none in cc)))) (subst IsMeantPlace there (meant.places e.0.1)), rest)
      go false same rest = rest

  -- the table is a map whose digest is the group's i-handle
  pub table_map : IsMap place_sort (handle T (Group g)) (group_table T g)
  unfolding group_table
  table_map =
      let good = pairs_good (entries T.pointers) (found_all (entries T.pointers) (entries_sorted T.pointers)) in
      record {
        tree = tree_of_rising number_bits number.prefix_free _ (numbers_rise _ (keys_meant is_u32 is_place _ good) (sorted_entries nat_cmp _ (is_sorted-pairs_of (λ (p : Place). p) g (entries T.pointers) (entries_sorted T.pointers))));
        good = good;
        is = refl;
      }
