-- Live operations in the order of their numbers: in a map, and with an index.
use Rattle.std.proofs.Common.{◌≡◌, ℕ, zero, suc, ◌-◌, ◌<◌, ◌≤◌, ◌^◌, Bool, true, false, not, cond, ◌&&◌, ◌||◌, ◌⊎◌, nat_eq, nat_le, nat_lt, List, [], ◌∷◌, length, slice_get, ◌+◌, Option, Some, None, IsSome, refl, sym, ◌∙◌, ap, subst, inl, inr, arith}
use Rattle.std.proofs.lemmas.Bool.{eq-eqb, ne_eqb, eqb-true, eqb-false, ltb-true, ltb-false, lt-ltb, le-ltb, leb-true, leb-false, le-leb, lt-leb}
use Rattle.std.specs.List.{AllByRecursion, filter, list_any}
use Rattle.std.specs.Map.{lookup, remove_entry, set_value, values_of}
use Rattle.std.specs.BTreeMap.{is_at, insert_entry}
use Rattle.std.specs.BTreeSet.{BTreeSet}
use Rattle.std.specs.declared.cmp.Ordering.{Ordering}
use Rattle.std.specs.declared.cmp.Ordering.TheVariants.{Less, Equal, Greater}
use Rattle.std.specs.Ordering.{is_le, is_lt, match_ordering, nat_cmp}
use Rattle.su_live.specs.declared.operations.LiveOperation.{LiveOperation}
use Rattle.su_live.specs.declared.readers.Reader.{Reader}
use Rattle.su_live.specs.Readers.{has_reader, reader_cmp, reads_by, EntersAbove, HasSame, IsEnteredBy, IsMissing, Leaves, PutsAbove}
use Rattle.su_live.specs.Live.{find_live, first_from, without, with_inverse, put_live, cut_live, join_live, insert_live, is_entered, entries_of, Ascend, AreSmall, HasAbove, IsIndexed}
use Rattle.su_kept_areas.specs.Marks.{has_mark, read_marks}
use Rattle.su_live.proofs.ReadersLemmas.{reads_by-true, as_above}
use Rattle.su_live.proofs.Tests.{not_so, from_test, and_none, comes_above, goes_above, put_over, cond_same, or_cases, or_false, or_swap, or_regroup, nat_eq-flip, first_goes, later_goes, less, equal, greater, same_number}

module _ {I : Type 0} where
  -- ---- in a map

  values-entries_of : (ks : List (LiveOperation I)) → values_of (entries_of ks) ≡ ks
  values-entries_of [] = refl
  values-entries_of (k ∷ ks) = ap (λ js. k ∷ js) (values-entries_of ks)

  -- entries that are those of a list
  pub record AreOf (es : List (ℕ × LiveOperation I)) (ks : List (LiveOperation I)) : Type 0 where
    pub values : values_of es ≡ ks
    pub keyed : es ≡ entries_of (values_of es)

  pub are_of : (es : List (ℕ × LiveOperation I)) (ks : List (LiveOperation I)) → es ≡ entries_of ks → AreOf es ks
  are_of es ks e =
      let same : values_of es ≡ ks = ap values_of e ∙ values-entries_of ks in
      record { values = same; keyed = e ∙ ap entries_of (sym same) }

  pub lookup-entries_of : (n : ℕ) (ks : List (LiveOperation I)) → lookup (is_at (nat_cmp n)) (entries_of ks) ≡ find_live n ks
  lookup-entries_of n [] = refl
  lookup-entries_of n (k ∷ ks) =
      ap (λ b. cond b (Some k) (lookup (is_at (nat_cmp n)) (entries_of ks))) (same_number n k.number)
      ∙ ap (λ o. cond (nat_eq k.number n) (Some k) o) (lookup-entries_of n ks)

  entries_of-cond : (b : Bool) (js ks : List (LiveOperation I)) → cond b (entries_of js) (entries_of ks) ≡ entries_of (cond b js ks)
  entries_of-cond true js ks = refl
  entries_of-cond false js ks = refl

  pub remove-entries_of : (n : ℕ) (ks : List (LiveOperation I)) → remove_entry (is_at (nat_cmp n)) (entries_of ks) ≡ entries_of (without n ks)
  remove-entries_of n [] = refl
  remove-entries_of n (k ∷ ks) =
      ap (λ b. cond b (entries_of ks) ((k.number, k) ∷ remove_entry (is_at (nat_cmp n)) (entries_of ks))) (same_number n k.number)
      ∙ ap (λ es. cond (nat_eq k.number n) (entries_of ks) ((k.number, k) ∷ es)) (remove-entries_of n ks)
      ∙ entries_of-cond (nat_eq k.number n) ks (k ∷ without n ks)

  -- of a number that isn't there the first doesn't have it, nor the others
  pub not_first : (n : ℕ) (k : LiveOperation I) (ks : List (LiveOperation I)) → find_live n (k ∷ ks) ≡ None → (nat_eq k.number n ≡ false) × (find_live n ks ≡ None)
  not_first n k ks none = by (nat_eq k.number n) refl none
    where
      by : (b : Bool) → nat_eq k.number n ≡ b → cond b (Some k) (find_live n ks) ≡ None → (nat_eq k.number n ≡ false) × (find_live n ks ≡ None)
      by true e found = absurd (cc)
      by false e found = (e, found)

  insert_step : (k j : LiveOperation I) (js : List (LiveOperation I)) (es : List (ℕ × LiveOperation I)) (o : Ordering) → nat_cmp k.number j.number ≡ o → nat_eq j.number k.number ≡ false
      → es ≡ entries_of (insert_live k js)
      → match_ordering o ((k.number, k) ∷ (j.number, j) ∷ entries_of js) ((j.number, k) ∷ entries_of js) ((j.number, j) ∷ es) ≡ entries_of (cond (nat_lt k.number j.number) (k ∷ j ∷ js) (j ∷ insert_live k js))
  insert_step k j js es Less e other same =
      ap (λ b. entries_of (cond b (k ∷ j ∷ js) (j ∷ insert_live k js))) (sym (lt-ltb k.number j.number (less k.number j.number e)))
  insert_step k j js es Equal e other same = absurd (eqb-false j.number k.number other (sym (equal k.number j.number e)))
  insert_step k j js es Greater e other same =
      let gt : j.number < k.number = greater k.number j.number e in
      ap (λ xs. (j.number, j) ∷ xs) same
      ∙ ap (λ b. entries_of (cond b (k ∷ j ∷ js) (j ∷ insert_live k js))) (sym (le-ltb k.number j.number (omega arith)))

  pub insert-entries_of : (k : LiveOperation I) (ks : List (LiveOperation I)) → find_live k.number ks ≡ None → insert_entry nat_cmp (entries_of ks) k.number k ≡ entries_of (insert_live k ks)
  insert-entries_of k [] none = refl
  insert-entries_of k (j ∷ js) none =
      let parts = not_first k.number j js none in
      insert_step k j js (insert_entry nat_cmp (entries_of js) k.number k) (nat_cmp k.number j.number) refl parts.0 (insert-entries_of k js parts.1)

  -- ---- what is so of each

  cond-all : (P : LiveOperation I → Type 0) (b : Bool) (js ks : List (LiveOperation I)) → AllByRecursion P js → AllByRecursion P ks → AllByRecursion P (cond b js ks)
  cond-all P true js ks a c = a
  cond-all P false js ks a c = c

  pub all-without : (P : LiveOperation I → Type 0) (n : ℕ) (ks : List (LiveOperation I)) → AllByRecursion P ks → AllByRecursion P (without n ks)
  all-without P n [] all = tt
  all-without P n (k ∷ ks) all = cond-all P (nat_eq k.number n) ks (k ∷ without n ks) all.1 (all.0, all-without P n ks all.1)

  pub all-insert_live : (P : LiveOperation I → Type 0) (k : LiveOperation I) (ks : List (LiveOperation I)) → P k → AllByRecursion P ks → AllByRecursion P (insert_live k ks)
  all-insert_live P k [] one all = (one, tt)
  all-insert_live P k (j ∷ js) one all =
      cond-all P (nat_lt k.number j.number) (k ∷ j ∷ js) (j ∷ insert_live k js) (one, all) (all.0, all-insert_live P k js one all.1)

  cond-ascend : (b : Bool) (js ks : List (LiveOperation I)) → (b ≡ true → Ascend js) → (b ≡ false → Ascend ks) → Ascend (cond b js ks)
  cond-ascend true js ks a c = a refl
  cond-ascend false js ks a c = c refl

  pub ascend-without : (n : ℕ) (ks : List (LiveOperation I)) → Ascend ks → Ascend (without n ks)
  ascend-without n [] ascend = tt
  ascend-without n (k ∷ ks) ascend =
      cond-ascend (nat_eq k.number n) ks (k ∷ without n ks) (λ _. ascend.1)
      (λ _. (all-without (λ (j : LiveOperation I). k.number < j.number) n ks ascend.0, ascend-without n ks ascend.1))

  all_above : (a b : ℕ) (ks : List (LiveOperation I)) → a < b → AllByRecursion (λ (j : LiveOperation I). b < j.number) ks → AllByRecursion (λ (j : LiveOperation I). a < j.number) ks
  all_above a b [] lt all = tt
  all_above a b (k ∷ ks) lt all = let next : b < k.number = all.0 in (omega arith, all_above a b ks lt all.1)

  pub ascend-insert_live : (k : LiveOperation I) (ks : List (LiveOperation I)) → find_live k.number ks ≡ None → Ascend ks → Ascend (insert_live k ks)
  ascend-insert_live k [] none ascend = (tt, tt)
  ascend-insert_live k (j ∷ js) none ascend =
      let parts = not_first k.number j js none in
      let on = ascend-insert_live k js parts.1 ascend.1 in
      cond-ascend (nat_lt k.number j.number) (k ∷ j ∷ js) (j ∷ insert_live k js)
      (λ e. let lt : k.number < j.number = ltb-true k.number j.number e in
      ((lt, all_above k.number j.number js lt ascend.0), ascend))
      (λ e. let le : j.number ≤ k.number = ltb-false k.number j.number e in
      let other : j.number ≡ k.number → ⊥ = eqb-false j.number k.number parts.0 in
      let lt : j.number < k.number = omega arith in
      (all-insert_live (λ (i : LiveOperation I). j.number < i.number) k js lt ascend.0, on))

  -- ---- numbers that aren't there

  pub none_above : (n : ℕ) (ks : List (LiveOperation I)) → AllByRecursion (λ (j : LiveOperation I). n < j.number) ks → find_live n ks ≡ None
  none_above n [] all = refl
  none_above n (k ∷ ks) all =
      let above : n < k.number = all.0 in
      ap (λ b. cond b (Some k) (find_live n ks)) (ne_eqb k.number n (λ same. omega arith)) ∙ none_above n ks all.1

  pub not_entered : (n : ℕ) (ks : List (LiveOperation I)) → find_live n ks ≡ None → (m : ℕ) → is_entered ks m n ≡ false
  not_entered n [] none m = refl
  not_entered n (k ∷ ks) none m =
      let parts = not_first n k ks none in
      let other : nat_eq n k.number ≡ false = nat_eq-flip n k.number ∙ parts.0 in
      ap (λ b. (b && has_mark (read_marks k.footprint.reads.items) m) || is_entered ks m n) other ∙ not_entered n ks parts.1 m

  -- ---- the index

  cond-entered : (b : Bool) (js ks : List (LiveOperation I)) (m n : ℕ) → is_entered (cond b js ks) m n ≡ cond b (is_entered js m n) (is_entered ks m n)
  cond-entered true js ks m n = refl
  cond-entered false js ks m n = refl

  pub entered-insert_live : (k : LiveOperation I) (ks : List (LiveOperation I)) (m n : ℕ) → is_entered (insert_live k ks) m n ≡ (is_entered ks m n || reads_by k.number k.footprint m n)
  entered-insert_live k [] m n = or_false (reads_by k.number k.footprint m n)
  entered-insert_live k (j ∷ js) m n =
      let r = reads_by k.number k.footprint m n in
      let a = reads_by j.number j.footprint m n in
      cond-entered (nat_lt k.number j.number) (k ∷ j ∷ js) (j ∷ insert_live k js) m n
      ∙ cond_same (nat_lt k.number j.number) (r || (a || is_entered js m n)) (a || is_entered (insert_live k js) m n) ((a || is_entered js m n) || r)
      (or_swap r (a || is_entered js m n))
      (ap (λ b. a || b) (entered-insert_live k js m n) ∙ or_regroup a (is_entered js m n) r)

  -- of the operation of a number that is there
  pub record IsFirstOrLater (n : ℕ) (k j : LiveOperation I) (js : List (LiveOperation I)) (first : Bool) : Type 0 where
    pub is_first : nat_eq j.number n ≡ first
    pub same : first ≡ true → j ≡ k
    pub later : first ≡ false → find_live n js ≡ Some k

  pub first_or_later : (n : ℕ) (k j : LiveOperation I) (js : List (LiveOperation I)) → find_live n (j ∷ js) ≡ Some k → IsFirstOrLater n k j js (nat_eq j.number n)
  first_or_later n k j js found = by (nat_eq j.number n) refl found
    where
      by : (b : Bool) → nat_eq j.number n ≡ b → cond b (Some j) (find_live n js) ≡ Some k → IsFirstOrLater n k j js b
      by true e f = record { is_first = e; same = λ _. cc; later = λ never. absurd (cc) }
      by false e f = record { is_first = e; same = λ never. absurd (cc); later = λ _. f }

  pub found_number : (n : ℕ) (k : LiveOperation I) (ks : List (LiveOperation I)) → find_live n ks ≡ Some k → k.number ≡ n
  found_number n k [] found = absurd (cc)
  found_number n k (j ∷ js) found = by (nat_eq j.number n) (first_or_later n k j js found) (found_number n k js)
    where
      by : (b : Bool) → IsFirstOrLater n k j js b → (find_live n js ≡ Some k → k.number ≡ n) → k.number ≡ n
      by true f on = ap (λ (i : LiveOperation I). i.number) (sym (f.same refl)) ∙ eqb-true j.number n f.is_first
      by false f on = on (f.later refl)

  pub found_all : (P : LiveOperation I → Type 0) (n : ℕ) (k : LiveOperation I) (ks : List (LiveOperation I)) → find_live n ks ≡ Some k → AllByRecursion P ks → P k
  found_all P n k [] found all = absurd (cc)
  found_all P n k (j ∷ js) found all = by (nat_eq j.number n) (first_or_later n k j js found) (λ f. found_all P n k js f all.1)
    where
      by : (b : Bool) → IsFirstOrLater n k j js b → (find_live n js ≡ Some k → P k) → P k
      by true f on = subst P (f.same refl) all.0
      by false f on = on (f.later refl)

  pub entered-without : (n : ℕ) (k : LiveOperation I) (ks : List (LiveOperation I)) → Ascend ks → find_live n ks ≡ Some k → (m q : ℕ) → is_entered (without n ks) m q ≡ (is_entered ks m q && not (reads_by n k.footprint m q))
  entered-without n k [] ascend found m q = absurd (cc)
  entered-without n k (j ∷ js) ascend found m q = by (nat_eq j.number n) (first_or_later n k j js found) (λ f. entered-without n k js ascend.1 f m q)
    where
      by : (b : Bool) → IsFirstOrLater n k j js b
          → (find_live n js ≡ Some k → is_entered (without n js) m q ≡ (is_entered js m q && not (reads_by n k.footprint m q)))
          → is_entered (cond b js (j ∷ without n js)) m q ≡ (is_entered (j ∷ js) m q && not (reads_by n k.footprint m q))
      by true f on =
          let here : j.number ≡ n = eqb-true j.number n f.is_first in
          let one : reads_by n k.footprint m q ≡ reads_by j.number j.footprint m q =
          ap (λ (i : LiveOperation I). reads_by n i.footprint m q) (sym (f.same refl)) ∙ ap (λ i. reads_by i j.footprint m q) (sym here) in
          first_goes (is_entered js m q) (reads_by j.number j.footprint m q)
          (λ e. ap (is_entered js m) (reads_by-true j.number j.footprint m q e) ∙ not_entered j.number js (none_above j.number js ascend.0) m)
          ∙ ap (λ r. is_entered (j ∷ js) m q && not r) (sym one)
      by false f on =
          let a = reads_by j.number j.footprint m q in
          ap (λ b. a || b) (on (f.later refl))
          ∙ later_goes a (is_entered js m q) (reads_by n k.footprint m q)
          (λ e. not_so (reads_by n k.footprint m q) (λ r.
          eqb-false j.number n f.is_first (sym (reads_by-true j.number j.footprint m q e) ∙ reads_by-true n k.footprint m q r)))

  -- ---- with its index

  pub found_in : (n : ℕ) (m : List (ℕ × LiveOperation I)) (s : BTreeSet Reader) (scanned : ℕ) (ks : List (LiveOperation I)) → IsIndexed m s scanned → values_of m ≡ ks → lookup (is_at (nat_cmp n)) m ≡ find_live n ks
  found_in n m s scanned ks indexed e =
      ap (lookup (is_at (nat_cmp n))) indexed.keyed ∙ lookup-entries_of n (values_of m) ∙ ap (find_live n) e

  pub ascend_in : (m : List (ℕ × LiveOperation I)) (s : BTreeSet Reader) (scanned : ℕ) (ks : List (LiveOperation I)) → IsIndexed m s scanned → values_of m ≡ ks → Ascend ks
  ascend_in m s scanned ks indexed e = subst Ascend e indexed.ascend

  pub small_in : (m : List (ℕ × LiveOperation I)) (s : BTreeSet Reader) (scanned : ℕ) (ks : List (LiveOperation I)) → IsIndexed m s scanned → values_of m ≡ ks → AreSmall ks
  small_in m s scanned ks indexed e = subst AreSmall e indexed.small

  pub entered_in : (m : List (ℕ × LiveOperation I)) (s : BTreeSet Reader) (scanned : ℕ) (ks : List (LiveOperation I)) → IsIndexed m s scanned → values_of m ≡ ks → (mark n : ℕ) → has_reader s mark n ≡ (nat_lt scanned n && is_entered ks mark n)
  entered_in m s scanned ks indexed e mark n = indexed.entered mark n ∙ ap (λ js. nat_lt scanned n && is_entered js mark n) e

  pub has_above : (n : ℕ) (m : List (ℕ × LiveOperation I)) (s : BTreeSet Reader) (scanned : ℕ) (ks : List (LiveOperation I)) → IsIndexed m s scanned → values_of m ≡ ks → scanned ≤ n → HasAbove n ks s
  has_above n m s scanned ks indexed e le mark q above =
      let lt : scanned < q = omega arith in
      entered_in m s scanned ks indexed e mark q ∙ ap (λ b. b && is_entered ks mark q) (lt-ltb scanned q lt)

  -- nothing is indexed by nothing
  pub none_indexed : (m : List (ℕ × LiveOperation I)) (s : BTreeSet Reader) (scanned : ℕ) → m ≡ [] → s.keys ≡ [] → IsIndexed m s scanned
  none_indexed m s scanned no_entries no_keys =
      let none : values_of m ≡ [] = ap values_of no_entries in
      record {
        keyed = no_entries ∙ ap entries_of (sym none);
        ascend = subst Ascend (sym none) tt;
        small = subst AreSmall (sym none) tt;
        entered = λ mark n. ap (list_any (is_at (reader_cmp (record { mark = mark; number = n })))) no_keys ∙ sym (and_none (nat_lt scanned n) (is_entered (values_of m) mark n) (λ _. ap (λ js. is_entered js mark n) none));
      }

  -- one more operation
  pub added_to : (k : LiveOperation I) (ks : List (LiveOperation I)) (m n : List (ℕ × LiveOperation I)) (s t : BTreeSet Reader) (scanned : ℕ) → IsIndexed m s scanned → values_of m ≡ ks → find_live k.number ks ≡ None → k.number < 2 ^ 32
      → n ≡ insert_entry nat_cmp m k.number k → EntersAbove scanned k.number k.footprint s t → IsIndexed n t scanned × (values_of n ≡ insert_live k ks)
  added_to k ks m n s t scanned indexed e none fits inserted enters =
      let was : m ≡ entries_of ks = indexed.keyed ∙ ap entries_of e in
      let now = are_of n (insert_live k ks) (inserted ∙ ap (λ es. insert_entry nat_cmp es k.number k) was ∙ insert-entries_of k ks none) in (
        record {
          keyed = now.keyed;
          ascend = subst Ascend (sym now.values) (ascend-insert_live k ks none (ascend_in m s scanned ks indexed e));
          small = subst AreSmall (sym now.values) (all-insert_live (λ (j : LiveOperation I). j.number < 2 ^ 32) k ks fits (small_in m s scanned ks indexed e));
          entered = λ mark q.
              let r = reads_by k.number k.footprint mark q in
              enters mark q ∙ ap (λ b. b || (nat_lt scanned k.number && r)) (entered_in m s scanned ks indexed e mark q)
              ∙ comes_above (nat_lt scanned q) (is_entered ks mark q) (nat_lt scanned k.number) r (as_above scanned k.number q k.footprint mark)
              ∙ ap (λ b. nat_lt scanned q && b) (sym (entered-insert_live k ks mark q) ∙ ap (λ js. is_entered js mark q) (sym now.values));
        },
        now.values,
      )

  -- one less
  pub removed_from : (n : ℕ) (k : LiveOperation I) (ks : List (LiveOperation I)) (m o : List (ℕ × LiveOperation I)) (s t : BTreeSet Reader) (scanned : ℕ) → IsIndexed m s scanned → values_of m ≡ ks → find_live n ks ≡ Some k
      → o ≡ remove_entry (is_at (nat_cmp n)) m → Leaves n k.footprint s t → IsIndexed o t scanned × (values_of o ≡ without n ks)
  removed_from n k ks m o s t scanned indexed e found removed leaves =
      let was : m ≡ entries_of ks = indexed.keyed ∙ ap entries_of e in
      let now = are_of o (without n ks) (removed ∙ ap (remove_entry (is_at (nat_cmp n))) was ∙ remove-entries_of n ks) in (
        record {
          keyed = now.keyed;
          ascend = subst Ascend (sym now.values) (ascend-without n ks (ascend_in m s scanned ks indexed e));
          small = subst AreSmall (sym now.values) (all-without (λ (j : LiveOperation I). j.number < 2 ^ 32) n ks (small_in m s scanned ks indexed e));
          entered = λ mark q.
              leaves mark q ∙ ap (λ b. b && not (reads_by n k.footprint mark q)) (entered_in m s scanned ks indexed e mark q)
              ∙ goes_above (nat_lt scanned q) (is_entered ks mark q) (reads_by n k.footprint mark q)
              ∙ ap (λ b. nat_lt scanned q && b) (sym (entered-without n k ks (ascend_in m s scanned ks indexed e) found mark q) ∙ ap (λ js. is_entered js mark q) (sym now.values));
        },
        now.values,
      )

  -- the same operations, and an index that has the same
  pub kept_as : (m n : List (ℕ × LiveOperation I)) (s t : BTreeSet Reader) (scanned : ℕ) → IsIndexed m s scanned → n ≡ m → HasSame s t → IsIndexed n t scanned
  kept_as m n s t scanned indexed same has =
      let values_same : values_of n ≡ values_of m = ap values_of same in
      record {
        keyed = same ∙ indexed.keyed ∙ ap entries_of (sym values_same);
        ascend = subst Ascend (sym values_same) indexed.ascend;
        small = subst AreSmall (sym values_same) indexed.small;
        entered = λ mark q. has mark q ∙ indexed.entered mark q ∙ ap (λ js. nat_lt scanned q && is_entered js mark q) (sym values_same);
      }

  pub without_none : (n : ℕ) (ks : List (LiveOperation I)) → find_live n ks ≡ None → without n ks ≡ ks
  without_none n [] none = refl
  without_none n (k ∷ ks) none =
      let parts = not_first n k ks none in
      ap (λ b. cond b ks (k ∷ without n ks)) parts.0 ∙ ap (λ js. k ∷ js) (without_none n ks parts.1)

  pub found_small : (n : ℕ) (k : LiveOperation I) (ks : List (LiveOperation I)) → find_live n ks ≡ Some k → AreSmall ks → n < 2 ^ 32
  found_small n k ks found small =
      subst (λ x. x < 2 ^ 32) (found_number n k ks found) (found_all (λ (j : LiveOperation I). j.number < 2 ^ 32) n k ks found small)

  pub missing_in : (n : ℕ) (m : List (ℕ × LiveOperation I)) (s : BTreeSet Reader) (scanned : ℕ) (ks : List (LiveOperation I)) → IsIndexed m s scanned → values_of m ≡ ks → find_live n ks ≡ None → IsMissing n s
  missing_in n m s scanned ks indexed e none mark =
      entered_in m s scanned ks indexed e mark n ∙ and_none (nat_lt scanned n) (is_entered ks mark n) (λ _. not_entered n ks none mark)

  pub entered_small : (ks : List (LiveOperation I)) → AreSmall ks → (m n : ℕ) → is_entered ks m n ≡ true → n < 2 ^ 32
  entered_small [] small m n entered = absurd (cc)
  entered_small (k ∷ ks) small m n entered =
      let cases : (reads_by k.number k.footprint m n ≡ true) ⊎ (is_entered ks m n ≡ true) =
      or_cases (reads_by k.number k.footprint m n) (is_entered ks m n) entered in
      elim cases [
        | inl e ↦ subst (λ x. x < 2 ^ 32) (sym (reads_by-true k.number k.footprint m n e)) small.0
        | inr e ↦ entered_small ks small.1 m n e
      ]

  -- ---- another inverse

  set_step : (n : ℕ) (i : I) (k j : LiveOperation I) (js : List (LiveOperation I)) (b : Bool) → IsFirstOrLater n k j js b
      → (find_live n js ≡ Some k → set_value (is_at (nat_cmp n)) (entries_of js) (record k { inverse = i }) ≡ entries_of (with_inverse n i js))
      → cond b ((j.number, record k { inverse = i }) ∷ entries_of js) ((j.number, j) ∷ set_value (is_at (nat_cmp n)) (entries_of js) (record k { inverse = i }))
      ≡ entries_of (cond b (record j { inverse = i } ∷ js) (j ∷ with_inverse n i js))
  set_step n i k j js true f on = ap (λ (x : LiveOperation I). (j.number, record x { inverse = i }) ∷ entries_of js) (sym (f.same refl))
  set_step n i k j js false f on = ap (λ es. (j.number, j) ∷ es) (on (f.later refl))

  pub set-entries_of : (n : ℕ) (i : I) (k : LiveOperation I) (ks : List (LiveOperation I)) → find_live n ks ≡ Some k → set_value (is_at (nat_cmp n)) (entries_of ks) (record k { inverse = i }) ≡ entries_of (with_inverse n i ks)
  set-entries_of n i k [] found = refl
  set-entries_of n i k (j ∷ js) found =
      ap (λ b. cond b ((j.number, record k { inverse = i }) ∷ entries_of js) ((j.number, j) ∷ set_value (is_at (nat_cmp n)) (entries_of js) (record k { inverse = i }))) (same_number n j.number)
      ∙ set_step n i k j js (nat_eq j.number n) (first_or_later n k j js found) (set-entries_of n i k js)

  -- what is so of operations but for their inverses
  all-with_inverse : (P : LiveOperation I → Type 0) (n : ℕ) (i : I) → ((k : LiveOperation I) → P k → P (record k { inverse = i })) → (ks : List (LiveOperation I)) → AllByRecursion P ks → AllByRecursion P (with_inverse n i ks)
  all-with_inverse P n i keeps [] all = tt
  all-with_inverse P n i keeps (k ∷ ks) all =
      cond-all P (nat_eq k.number n) (record k { inverse = i } ∷ ks) (k ∷ with_inverse n i ks) (keeps k all.0, all.1) (all.0, all-with_inverse P n i keeps ks all.1)

  ascend-with_inverse : (n : ℕ) (i : I) (ks : List (LiveOperation I)) → Ascend ks → Ascend (with_inverse n i ks)
  ascend-with_inverse n i [] ascend = tt
  ascend-with_inverse n i (k ∷ ks) ascend =
      cond-ascend (nat_eq k.number n) (record k { inverse = i } ∷ ks) (k ∷ with_inverse n i ks) (λ _. ascend)
      (λ _. (all-with_inverse (λ (j : LiveOperation I). k.number < j.number) n i (λ j lt. lt) ks ascend.0, ascend-with_inverse n i ks ascend.1))

  entered-with_inverse : (n : ℕ) (i : I) (ks : List (LiveOperation I)) (m q : ℕ) → is_entered (with_inverse n i ks) m q ≡ is_entered ks m q
  entered-with_inverse n i [] m q = refl
  entered-with_inverse n i (k ∷ ks) m q =
      cond-entered (nat_eq k.number n) (record k { inverse = i } ∷ ks) (k ∷ with_inverse n i ks) m q
      ∙ cond_same (nat_eq k.number n) (is_entered (k ∷ ks) m q) (reads_by k.number k.footprint m q || is_entered (with_inverse n i ks) m q) (is_entered (k ∷ ks) m q)
      refl (ap (λ b. reads_by k.number k.footprint m q || b) (entered-with_inverse n i ks m q))

  pub inverse_put : (n : ℕ) (i : I) (k : LiveOperation I) (ks : List (LiveOperation I)) (m o : List (ℕ × LiveOperation I)) (s : BTreeSet Reader) (scanned : ℕ) → IsIndexed m s scanned → values_of m ≡ ks → find_live n ks ≡ Some k
      → o ≡ set_value (is_at (nat_cmp n)) m (record k { inverse = i }) → IsIndexed o s scanned × (values_of o ≡ with_inverse n i ks)
  inverse_put n i k ks m o s scanned indexed e found put =
      let was : m ≡ entries_of ks = indexed.keyed ∙ ap entries_of e in
      let now = are_of o (with_inverse n i ks) (put ∙ ap (λ es. set_value (is_at (nat_cmp n)) es (record k { inverse = i })) was ∙ set-entries_of n i k ks found) in (
        record {
          keyed = now.keyed;
          ascend = subst Ascend (sym now.values) (ascend-with_inverse n i ks (ascend_in m s scanned ks indexed e));
          small = subst AreSmall (sym now.values) (all-with_inverse (λ (j : LiveOperation I). j.number < 2 ^ 32) n i (λ j lt. lt) ks (small_in m s scanned ks indexed e));
          entered = λ mark q.
              entered_in m s scanned ks indexed e mark q
              ∙ ap (λ b. nat_lt scanned q && b) (sym (entered-with_inverse n i ks mark q) ∙ ap (λ js. is_entered js mark q) (sym now.values));
        },
        now.values,
      )

  pub no_inverse_put : (n : ℕ) (i : I) (ks : List (LiveOperation I)) → find_live n ks ≡ None → with_inverse n i ks ≡ ks
  no_inverse_put n i [] none = refl
  no_inverse_put n i (k ∷ ks) none =
      let parts = not_first n k ks none in
      ap (λ b. cond b (record k { inverse = i } ∷ ks) (k ∷ with_inverse n i ks)) parts.0 ∙ ap (λ js. k ∷ js) (no_inverse_put n i ks parts.1)

  -- ---- the first from a number on

  -- the first operation of entries
  abbrev pub first_of : List (ℕ × LiveOperation I) → Option (LiveOperation I)
  first_of [] = None
  first_of (e ∷ es) = Some e.1

  pub filter_first : (n : ℕ) (ks : List (LiveOperation I)) (p : ℕ → Bool) → ((q : ℕ) → p q ≡ nat_le n q) → first_of (filter (λ (e : ℕ × LiveOperation I). p e.0) (entries_of ks)) ≡ first_from n ks
  filter_first n [] p test = refl
  filter_first n (k ∷ ks) p test = by (p k.number) refl (filter_first n ks p test)
    where
      by : (b : Bool) → p k.number ≡ b → first_of (filter (λ (e : ℕ × LiveOperation I). p e.0) (entries_of ks)) ≡ first_from n ks
          → first_of (cond b ((k.number, k) ∷ filter (λ (e : ℕ × LiveOperation I). p e.0) (entries_of ks)) (filter (λ (e : ℕ × LiveOperation I). p e.0) (entries_of ks))) ≡ first_from n (k ∷ ks)
      by true e on = ap (λ b. cond b (Some k) (first_from n ks)) (sym e ∙ test k.number)
      by false e on = on ∙ ap (λ b. cond b (Some k) (first_from n ks)) (sym e ∙ test k.number)

  -- ---- an operation in the place of another

  none_from : (n : ℕ) (j : LiveOperation I) (js : List (LiveOperation I)) → n < j.number → Ascend (j ∷ js) → find_live n (j ∷ js) ≡ None
  none_from n j js lt ascend = none_above n (j ∷ js) (lt, all_above n j.number js lt ascend.0)

  put_step : (k f j : LiveOperation I) (js : List (LiveOperation I)) (o : Ordering) → nat_cmp k.number j.number ≡ o → Ascend (j ∷ js) → find_live k.number (j ∷ js) ≡ Some f
      → (find_live k.number js ≡ Some f → insert_entry nat_cmp (entries_of js) k.number k ≡ entries_of (put_live k js))
      → match_ordering o ((k.number, k) ∷ (j.number, j) ∷ entries_of js) ((j.number, k) ∷ entries_of js) ((j.number, j) ∷ insert_entry nat_cmp (entries_of js) k.number k)
      ≡ entries_of (cond (nat_eq j.number k.number) (k ∷ js) (j ∷ put_live k js))
  put_step k f j js Less e ascend found on =
      let none : find_live k.number (j ∷ js) ≡ None = none_from k.number j js (less k.number j.number e) ascend in
      absurd (let never : Some f ≡ None = sym found ∙ none in cc)
  put_step k f j js Equal e ascend found on =
      let same : j.number ≡ k.number = sym (equal k.number j.number e) in
      ap (λ n. (n, k) ∷ entries_of js) same ∙ ap (λ b. entries_of (cond b (k ∷ js) (j ∷ put_live k js))) (sym (eq-eqb j.number k.number same))
  put_step k f j js Greater e ascend found on =
      let lt : j.number < k.number = greater k.number j.number e in
      let other : nat_eq j.number k.number ≡ false = ne_eqb j.number k.number (λ same. omega arith) in
      let later : find_live k.number js ≡ Some f = sym (ap (λ b. cond b (Some j) (find_live k.number js)) other) ∙ found in
      ap (λ es. (j.number, j) ∷ es) (on later) ∙ ap (λ b. entries_of (cond b (k ∷ js) (j ∷ put_live k js))) (sym other)

  pub put-entries_of : (k f : LiveOperation I) (ks : List (LiveOperation I)) → Ascend ks → find_live k.number ks ≡ Some f → insert_entry nat_cmp (entries_of ks) k.number k ≡ entries_of (put_live k ks)
  put-entries_of k f [] ascend found = absurd (cc)
  put-entries_of k f (j ∷ js) ascend found = put_step k f j js (nat_cmp k.number j.number) refl ascend found (put-entries_of k f js ascend.1)

  all-put_live : (P : LiveOperation I → Type 0) (k : LiveOperation I) (ks : List (LiveOperation I)) → P k → AllByRecursion P ks → AllByRecursion P (put_live k ks)
  all-put_live P k [] one all = tt
  all-put_live P k (j ∷ js) one all =
      cond-all P (nat_eq j.number k.number) (k ∷ js) (j ∷ put_live k js) (one, all.1) (all.0, all-put_live P k js one all.1)

  put_ascends : (k f j : LiveOperation I) (js : List (LiveOperation I)) (b : Bool) → IsFirstOrLater k.number f j js b → Ascend (j ∷ js) → (find_live k.number js ≡ Some f → Ascend (put_live k js))
      → Ascend (cond b (k ∷ js) (j ∷ put_live k js))
  put_ascends k f j js true first ascend on =
      let same : j.number ≡ k.number = eqb-true j.number k.number first.is_first in
      (subst (λ n. AllByRecursion (λ (i : LiveOperation I). n < i.number) js) same ascend.0, ascend.1)
  put_ascends k f j js false first ascend on =
      let found = first.later refl in
      let lt : j.number < f.number = found_all (λ (i : LiveOperation I). j.number < i.number) k.number f js found ascend.0 in
      let same : f.number ≡ k.number = found_number k.number f js found in
      (all-put_live (λ (i : LiveOperation I). j.number < i.number) k js (omega arith) ascend.0, on found)

  pub ascend-put_live : (k f : LiveOperation I) (ks : List (LiveOperation I)) → Ascend ks → find_live k.number ks ≡ Some f → Ascend (put_live k ks)
  ascend-put_live k f [] ascend found = absurd (cc)
  ascend-put_live k f (j ∷ js) ascend found =
      put_ascends k f j js (nat_eq j.number k.number) (first_or_later k.number f j js found) ascend (ascend-put_live k f js ascend.1)

  found_marks : (n : ℕ) (f j : LiveOperation I) (js : List (LiveOperation I)) (b : Bool) → IsFirstOrLater n f j js b → Ascend (j ∷ js) → (m : ℕ)
      → (find_live n js ≡ Some f → is_entered js m n ≡ has_mark (read_marks f.footprint.reads.items) m) → is_entered (j ∷ js) m n ≡ has_mark (read_marks f.footprint.reads.items) m
  found_marks n f j js true first ascend m on =
      let same : j.number ≡ n = eqb-true j.number n first.is_first in
      ap (λ b. (b && has_mark (read_marks j.footprint.reads.items) m) || is_entered js m n) (eq-eqb n j.number (sym same))
      ∙ ap (λ b. has_mark (read_marks j.footprint.reads.items) m || b) (ap (is_entered js m) (sym same) ∙ not_entered j.number js (none_above j.number js ascend.0) m)
      ∙ or_false (has_mark (read_marks j.footprint.reads.items) m)
      ∙ ap (λ (i : LiveOperation I). has_mark (read_marks i.footprint.reads.items) m) (first.same refl)
  found_marks n f j js false first ascend m on =
      ap (λ b. (b && has_mark (read_marks j.footprint.reads.items) m) || is_entered js m n) (nat_eq-flip n j.number ∙ first.is_first) ∙ on (first.later refl)

  pub entered-found : (n : ℕ) (f : LiveOperation I) (ks : List (LiveOperation I)) → Ascend ks → find_live n ks ≡ Some f → (m : ℕ) → is_entered ks m n ≡ has_mark (read_marks f.footprint.reads.items) m
  entered-found n f [] ascend found m = absurd (cc)
  entered-found n f (j ∷ js) ascend found m = found_marks n f j js (nat_eq j.number n) (first_or_later n f j js found) ascend m (λ later. entered-found n f js ascend.1 later m)

  put_entered : (k f j : LiveOperation I) (js : List (LiveOperation I)) (b : Bool) → IsFirstOrLater k.number f j js b → Ascend (j ∷ js) → (m q : ℕ)
      → (find_live k.number js ≡ Some f → is_entered (put_live k js) m q ≡ ((is_entered js m q && not (reads_by k.number f.footprint m q)) || reads_by k.number k.footprint m q))
      → is_entered (cond b (k ∷ js) (j ∷ put_live k js)) m q ≡ ((is_entered (j ∷ js) m q && not (reads_by k.number f.footprint m q)) || reads_by k.number k.footprint m q)
  put_entered k f j js true first ascend m q on =
      let here : j.number ≡ k.number = eqb-true j.number k.number first.is_first in
      let one : reads_by k.number f.footprint m q ≡ reads_by j.number j.footprint m q =
      ap (λ (i : LiveOperation I). reads_by k.number i.footprint m q) (sym (first.same refl)) ∙ ap (λ i. reads_by i j.footprint m q) (sym here) in
      or_swap (reads_by k.number k.footprint m q) (is_entered js m q)
      ∙ ap (λ b. b || reads_by k.number k.footprint m q)
      (first_goes (is_entered js m q) (reads_by j.number j.footprint m q)
      (λ e. ap (is_entered js m) (reads_by-true j.number j.footprint m q e) ∙ not_entered j.number js (none_above j.number js ascend.0) m)
      ∙ ap (λ r. is_entered (j ∷ js) m q && not r) (sym one))
  put_entered k f j js false first ascend m q on =
      let a = reads_by j.number j.footprint m q in
      let gone = reads_by k.number f.footprint m q in
      ap (λ b. a || b) (on (first.later refl))
      ∙ or_regroup a (is_entered js m q && not gone) (reads_by k.number k.footprint m q)
      ∙ ap (λ b. b || reads_by k.number k.footprint m q)
      (later_goes a (is_entered js m q) gone
      (λ e. not_so gone (λ r.
      eqb-false j.number k.number first.is_first (sym (reads_by-true j.number j.footprint m q e) ∙ reads_by-true k.number f.footprint m q r))))

  pub entered-put_live : (k f : LiveOperation I) (ks : List (LiveOperation I)) → Ascend ks → find_live k.number ks ≡ Some f → (m q : ℕ)
      → is_entered (put_live k ks) m q ≡ ((is_entered ks m q && not (reads_by k.number f.footprint m q)) || reads_by k.number k.footprint m q)
  entered-put_live k f [] ascend found m q = absurd (cc)
  entered-put_live k f (j ∷ js) ascend found m q =
      put_entered k f j js (nat_eq j.number k.number) (first_or_later k.number f j js found) ascend m q (λ later. entered-put_live k f js ascend.1 later m q)

  pub entered_by : (n : ℕ) (f : LiveOperation I) (m : List (ℕ × LiveOperation I)) (s : BTreeSet Reader) (scanned : ℕ) (ks : List (LiveOperation I)) → IsIndexed m s scanned → values_of m ≡ ks → find_live n ks ≡ Some f → scanned < n → IsEnteredBy n f.footprint s
  entered_by n f m s scanned ks indexed e found above mark =
      entered_in m s scanned ks indexed e mark n ∙ ap (λ b. b && is_entered ks mark n) (lt-ltb scanned n above) ∙ entered-found n f ks (ascend_in m s scanned ks indexed e) found mark

  pub put_in_place : (k f : LiveOperation I) (ks : List (LiveOperation I)) (m o : List (ℕ × LiveOperation I)) (s t : BTreeSet Reader) (scanned : ℕ) → IsIndexed m s scanned → values_of m ≡ ks → find_live k.number ks ≡ Some f
      → o ≡ insert_entry nat_cmp m k.number k → PutsAbove scanned k.number k.footprint f.footprint s t → IsIndexed o t scanned × (values_of o ≡ put_live k ks)
  put_in_place k f ks m o s t scanned indexed e found inserted puts =
      let was : m ≡ entries_of ks = indexed.keyed ∙ ap entries_of e in
      let ascends = ascend_in m s scanned ks indexed e in
      let smalls = small_in m s scanned ks indexed e in
      let now = are_of o (put_live k ks) (inserted ∙ ap (λ es. insert_entry nat_cmp es k.number k) was ∙ put-entries_of k f ks ascends found) in (
        record {
          keyed = now.keyed;
          ascend = subst Ascend (sym now.values) (ascend-put_live k f ks ascends found);
          small = subst AreSmall (sym now.values) (all-put_live (λ (j : LiveOperation I). j.number < 2 ^ 32) k ks (found_small k.number f ks found smalls) smalls);
          entered = λ mark q.
              let d = nat_lt scanned k.number in
              let a = reads_by k.number f.footprint mark q in
              let b = reads_by k.number k.footprint mark q in
              puts mark q
              ∙ ap (λ x. (x && not (d && a)) || (d && b)) (entered_in m s scanned ks indexed e mark q)
              ∙ put_over (nat_lt scanned q) (is_entered ks mark q) d a b (as_above scanned k.number q f.footprint mark) (as_above scanned k.number q k.footprint mark)
              ∙ ap (λ x. nat_lt scanned q && x) (sym (entered-put_live k f ks ascends found mark q) ∙ ap (λ js. is_entered js mark q) (sym now.values));
        },
        now.values,
      )

  -- ---- without those from a number on

  pub none_cut : (n : ℕ) (ks : List (LiveOperation I)) → first_from n ks ≡ None → cut_live n ks ≡ ks
  none_cut n [] none = refl
  none_cut n (k ∷ ks) none = by (nat_le n k.number) none (none_cut n ks)
    where
      by : (b : Bool) → cond b (Some k) (first_from n ks) ≡ None → (first_from n ks ≡ None → cut_live n ks ≡ ks) → cond b [] (k ∷ cut_live n ks) ≡ k ∷ ks
      by true e on = absurd (cc)
      by false e on = ap (λ js. k ∷ js) (on e)

  cut_all : (n : ℕ) (ks : List (LiveOperation I)) → AllByRecursion (λ (j : LiveOperation I). n ≤ j.number) ks → cut_live n ks ≡ []
  cut_all n [] all = refl
  cut_all n (k ∷ ks) all = ap (λ b. cond b [] (k ∷ cut_live n ks)) (le-leb n k.number all.0)

  all_from : (a b : ℕ) (ks : List (LiveOperation I)) → a ≤ b → AllByRecursion (λ (j : LiveOperation I). b < j.number) ks → AllByRecursion (λ (j : LiveOperation I). a ≤ j.number) ks
  all_from a b [] le all = tt
  all_from a b (k ∷ ks) le all = let next : b < k.number = all.0 in (omega arith, all_from a b ks le all.1)

  -- the first from n on may go
  pub record GoesFirst (n : ℕ) (k : LiveOperation I) (ks : List (LiveOperation I)) : Type 0 where
    pub from : n ≤ k.number
    pub same : cut_live n (without k.number ks) ≡ cut_live n ks
    pub fewer : length (without k.number ks) < length ks

  pub first_goes_first : (n : ℕ) (k : LiveOperation I) (ks : List (LiveOperation I)) → Ascend ks → first_from n ks ≡ Some k → GoesFirst n k ks
  first_goes_first n k [] ascend found = absurd (cc)
  first_goes_first n k (j ∷ js) ascend found = by (nat_le n j.number) refl found (first_goes_first n k js ascend.1)
    where
      by : (b : Bool) → nat_le n j.number ≡ b → cond b (Some j) (first_from n js) ≡ Some k → (first_from n js ≡ Some k → GoesFirst n k js) → GoesFirst n k (j ∷ js)
      by true e is on =
          let le : n ≤ j.number = leb-true n j.number e in
          let same : j ≡ k = cc in
          let gone : without k.number (j ∷ js) ≡ js = ap (λ (i : LiveOperation I). without i.number (j ∷ js)) (sym same) ∙ ap (λ b. cond b js (j ∷ without j.number js)) (eq-eqb j.number j.number refl) in
          record {
            from = subst (λ (i : LiveOperation I). n ≤ i.number) same le;
            same = ap (cut_live n) gone ∙ cut_all n js (all_from n j.number js le ascend.0) ∙ ap (λ b. cond b [] (j ∷ cut_live n js)) (sym e);
            fewer = let l : length (without k.number (j ∷ js)) ≡ length js = ap length gone in omega arith;
          }
      by false e is on =
          let rest = on is in
          let lt : j.number < n = leb-false n j.number e in
          let le : n ≤ k.number = rest.from in
          let other : nat_eq j.number k.number ≡ false = ne_eqb j.number k.number (λ same. omega arith) in
          let kept : without k.number (j ∷ js) ≡ j ∷ without k.number js = ap (λ b. cond b js (j ∷ without k.number js)) other in
          let fewer : length (without k.number js) < length js = rest.fewer in
          record {
            from = le;
            same = ap (cut_live n) kept ∙ ap (λ b. cond b [] (j ∷ cut_live n (without k.number js))) e
                ∙ ap (λ is. j ∷ is) rest.same ∙ ap (λ b. cond b [] (j ∷ cut_live n js)) (sym e);
            fewer = let l : length (without k.number (j ∷ js)) ≡ length (j ∷ without k.number js) = ap length kept in omega arith;
          }

  join_step : (k f j : LiveOperation I) (js : List (LiveOperation I)) (b : Bool) → IsFirstOrLater k.number f j js b → Ascend (j ∷ js) → (find_live k.number js ≡ Some f → cut_live (k.number + 1) (put_live k js) ≡ join_live k js)
      → cut_live (k.number + 1) (cond b (k ∷ js) (j ∷ put_live k js)) ≡ cond b (k ∷ []) (j ∷ join_live k js)
  join_step k f j js true first ascend on =
      let same : j.number ≡ k.number = eqb-true j.number k.number first.is_first in
      ap (λ b. cond b [] (k ∷ cut_live (k.number + 1) js)) (lt-leb (k.number + 1) k.number (omega arith))
      ∙ ap (λ is. k ∷ is) (cut_all (k.number + 1) js (next_on js (subst (λ n. AllByRecursion (λ (i : LiveOperation I). n < i.number) js) same ascend.0)))
    where
      next_on : (is : List (LiveOperation I)) → AllByRecursion (λ (i : LiveOperation I). k.number < i.number) is → AllByRecursion (λ (i : LiveOperation I). k.number + 1 ≤ i.number) is
      next_on [] all = tt
      next_on (i ∷ is) all = let lt : k.number < i.number = all.0 in (omega arith, next_on is all.1)
  join_step k f j js false first ascend on =
      let found = first.later refl in
      let lt : j.number < f.number = found_all (λ (i : LiveOperation I). j.number < i.number) k.number f js found ascend.0 in
      let same : f.number ≡ k.number = found_number k.number f js found in
      ap (λ b. cond b [] (j ∷ cut_live (k.number + 1) (put_live k js))) (lt-leb (k.number + 1) j.number (omega arith)) ∙ ap (λ is. j ∷ is) (on found)

  pub cut-put_live : (k f : LiveOperation I) (ks : List (LiveOperation I)) → Ascend ks → find_live k.number ks ≡ Some f → cut_live (k.number + 1) (put_live k ks) ≡ join_live k ks
  cut-put_live k f [] ascend found = absurd (cc)
  cut-put_live k f (j ∷ js) ascend found = join_step k f j js (nat_eq j.number k.number) (first_or_later k.number f j js found) ascend (cut-put_live k f js ascend.1)

  -- ---- what is there

  pub record IsThere (n : ℕ) (ks : List (LiveOperation I)) : Type 0 where
    pub operation : LiveOperation I
    pub found : find_live n ks ≡ Some operation

  there_as : (n : ℕ) (ks : List (LiveOperation I)) (o : Option (LiveOperation I)) → find_live n ks ≡ o → IsSome o → IsThere n ks
  there_as n ks (Some k) e some = record { operation = k; found = e }
  there_as n ks None e some = absurd (cc)

  pub is_there : (n : ℕ) (ks : List (LiveOperation I)) → IsSome (find_live n ks) → IsThere n ks
  is_there n ks some = there_as n ks (find_live n ks) refl some

  -- it isn't missing
  pub not_missing : (n : ℕ) (ks : List (LiveOperation I)) → IsSome (find_live n ks) → find_live n ks ≡ None → ⊥
  not_missing n ks some none = let there = is_there n ks some in let never : Some there.operation ≡ None = sym there.found ∙ none in cc

  pub joined : (k : LiveOperation I) (ks : List (LiveOperation I)) → Ascend ks → IsSome (find_live k.number ks) → cut_live (k.number + 1) (put_live k ks) ≡ join_live k ks
  joined k ks ascend some = let there = is_there k.number ks some in cut-put_live k there.operation ks ascend there.found

  -- the first from a number on, as a map has it
  pub from_range : (n : ℕ) (m : List (ℕ × LiveOperation I)) (s : BTreeSet Reader) (scanned : ℕ) (ks : List (LiveOperation I)) (r : List (ℕ × LiveOperation I)) → IsIndexed m s scanned → values_of m ≡ ks
      → r ≡ filter (λ (e : ℕ × LiveOperation I). is_le (nat_cmp n e.0) && true) m → first_of r ≡ first_from n ks
  from_range n m s scanned ks r indexed e between =
      ap first_of (between ∙ ap (filter (λ (e : ℕ × LiveOperation I). is_le (nat_cmp n e.0) && true)) (indexed.keyed ∙ ap entries_of e))
      ∙ filter_first n ks (λ q. is_le (nat_cmp n q) && true) (from_test n)

  -- ---- without an index

  at_index : (P : LiveOperation I → Type 0) (x : ℕ) (k : LiveOperation I) (ks : List (LiveOperation I)) → AllByRecursion P ks → slice_get ks x ≡ Some k → P k
  at_index P x k [] all at = absurd (cc)
  at_index P zero k (j ∷ js) all at = let same : j ≡ k = cc in subst P same all.0
  at_index P (suc x) k (j ∷ js) all at = at_index P x k js all.1 at

  -- none has a greater number than the last one
  pub all_up_to : (x : ℕ) (k : LiveOperation I) (ks : List (LiveOperation I)) → Ascend ks → slice_get ks x ≡ Some k → length ks ≡ x + 1 → AllByRecursion (λ (j : LiveOperation I). j.number ≤ k.number) ks
  all_up_to x k [] ascend last all = tt
  all_up_to zero k (j ∷ []) ascend last all =
      let same : j ≡ k = cc in (subst (λ (i : LiveOperation I). j.number ≤ i.number) same (omega arith), tt)
  all_up_to zero k (j ∷ i ∷ is) ascend last all = absurd (omega arith)
  all_up_to (suc x) k (j ∷ js) ascend last all =
      let lt : j.number < k.number = at_index (λ (i : LiveOperation I). j.number < i.number) x k js ascend.0 last in
      (omega arith, all_up_to x k js ascend.1 last (omega arith))

  -- the last one stands there, where there is one
  pub none_has_greater : (k : LiveOperation I) (ks : List (LiveOperation I)) → Ascend ks → slice_get ks (length ks - 1) ≡ Some k → AllByRecursion (λ (j : LiveOperation I). j.number ≤ k.number) ks
  none_has_greater k [] ascend last = tt
  none_has_greater k (j ∷ js) ascend last =
      let index : length (j ∷ js) - 1 ≡ length js = omega arith in
      all_up_to (length js) k (j ∷ js) ascend (sym (ap (slice_get (j ∷ js)) index) ∙ last) (omega arith)

  pub none_at_all : (n : ℕ) (ks : List (LiveOperation I)) → slice_get ks (length ks - 1) ≡ None → AllByRecursion (λ (j : LiveOperation I). j.number ≤ n) ks
  none_at_all n [] last = tt
  none_at_all n (j ∷ js) last =
      let index : length (j ∷ js) - 1 ≡ length js = omega arith in
      absurd (not_within (length js) (j ∷ js) (omega arith) (sym (ap (slice_get (j ∷ js)) index) ∙ last))
    where
      not_within : (x : ℕ) (is : List (LiveOperation I)) → x < length is → slice_get is x ≡ None → ⊥
      not_within x [] within none = omega arith
      not_within zero (i ∷ is) within none = cc
      not_within (suc x) (i ∷ is) within none = not_within x is (omega arith) none

  none_entered_above : (n : ℕ) (ks : List (LiveOperation I)) → AllByRecursion (λ (k : LiveOperation I). k.number ≤ n) ks → (mark q : ℕ) → n < q → is_entered ks mark q ≡ false
  none_entered_above n [] all mark q above = refl
  none_entered_above n (k ∷ ks) all mark q above =
      let le : k.number ≤ n = all.0 in
      ap (λ b. (b && has_mark (read_marks k.footprint.reads.items) mark) || is_entered ks mark q) (ne_eqb q k.number (λ same. omega arith))
      ∙ none_entered_above n ks all.1 mark q above

  -- where all are up to a number, nothing is the index above it
  pub forgotten : (m : List (ℕ × LiveOperation I)) (s t : BTreeSet Reader) (scanned n : ℕ) (ks : List (LiveOperation I)) → IsIndexed m s scanned → values_of m ≡ ks
      → AllByRecursion (λ (k : LiveOperation I). k.number ≤ n) ks → t.keys ≡ [] → IsIndexed m t n
  forgotten m s t scanned n ks indexed e all no_keys = record {
    keyed = indexed.keyed;
    ascend = indexed.ascend;
    small = indexed.small;
    entered = λ mark q.
        ap (list_any (is_at (reader_cmp (record { mark = mark; number = q })))) no_keys
        ∙ sym (and_none (nat_lt n q) (is_entered (values_of m) mark q)
        (λ above. ap (λ js. is_entered js mark q) e ∙ none_entered_above n ks all mark q (ltb-true n q above)));
  }

  pub all_later : (n l : ℕ) (ks : List (LiveOperation I)) → n ≤ l → AllByRecursion (λ (k : LiveOperation I). k.number ≤ n) ks → AllByRecursion (λ (k : LiveOperation I). k.number ≤ l) ks
  all_later n l [] le all = tt
  all_later n l (k ∷ ks) le all = let here : k.number ≤ n = all.0 in (omega arith, all_later n l ks le all.1)

  -- ---- the last up to a number, as a map has it

  pub found_at : (n : ℕ) (m : List (ℕ × LiveOperation I)) (s : BTreeSet Reader) (scanned : ℕ) (ks : List (LiveOperation I)) → IsIndexed m s scanned → values_of m ≡ ks → lookup (is_at (nat_cmp n)) m ≡ None → find_live n ks ≡ None
  found_at n m s scanned ks indexed e none = sym (found_in n m s scanned ks indexed e) ∙ none

  none_greater : (n last q : ℕ) (o : Option (LiveOperation I)) → (IsSome o → is_lt (nat_cmp last q) ≡ false) → last < q → o ≡ None
  none_greater n last q None not_less above = refl
  none_greater n last q (Some k) not_less above =
      absurd (let e : is_lt (nat_cmp last q) ≡ false = not_less refl in let le : q ≤ last = not_less_than last q (nat_cmp last q) refl e in omega arith)
    where
      not_less_than : (a b : ℕ) (o : Ordering) → nat_cmp a b ≡ o → is_lt o ≡ false → b ≤ a
      not_less_than a b Less e f = absurd (cc)
      not_less_than a b Equal e f = let same : a ≡ b = equal a b e in omega arith
      not_less_than a b Greater e f = let lt : b < a = greater a b e in omega arith

  pub none_greater_there : (n last : ℕ) (m : List (ℕ × LiveOperation I)) (s : BTreeSet Reader) (scanned : ℕ) (ks : List (LiveOperation I)) → IsIndexed m s scanned → values_of m ≡ ks
      → ((q : ℕ) → q ≤ n → IsSome (lookup (is_at (nat_cmp q)) m) → is_lt (nat_cmp last q) ≡ false) → (q : ℕ) → last < q → q ≤ n → find_live q ks ≡ None
  none_greater_there n last m s scanned ks indexed e greatest q above within =
      sym (found_in q m s scanned ks indexed e) ∙ none_greater n last q (lookup (is_at (nat_cmp q)) m) (greatest q within) above
