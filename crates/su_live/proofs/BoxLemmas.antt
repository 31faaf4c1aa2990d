-- Live operations in boxes, as a map has them.
use Rattle.std.proofs.Common.{◌≡◌, ℕ, zero, suc, ◌-◌, ◌<◌, ◌^◌, Bool, true, false, cond, ◌&&◌, List, [], ◌∷◌, map, length, slice_get, Option, Some, None, IsSome, Box, box_value, refl, sym, ◌∙◌, ap, subst}
use Rattle.std.specs.List.{filter}
use Rattle.std.specs.Map.{lookup, remove_entry, set_value, values_of}
use Rattle.std.specs.BTreeMap.{is_at, insert_entry}
use Rattle.std.specs.BTreeSet.{BTreeSet}
use Rattle.std.specs.declared.cmp.Ordering.{Ordering}
use Rattle.std.specs.declared.cmp.Ordering.TheVariants.{Less, Equal, Greater}
use Rattle.std.specs.Option.{option_map}
use Rattle.std.specs.Ordering.{is_le, match_ordering, nat_cmp}
use Rattle.su_live.specs.declared.operations.LiveOperation.{LiveOperation}
use Rattle.su_live.specs.declared.readers.Reader.{Reader}
use Rattle.su_live.specs.Readers.{EntersAbove, Leaves, PutsAbove}
use Rattle.su_live.specs.Live.{find_live, first_from, insert_live, numbers_of, put_live, unboxed, with_inverse, without, IsIndexed}
use Rattle.su_live.proofs.LiveLemmas.{added_to, first_of, found_in, from_range, inverse_put, put_in_place, removed_from}

module _ {I Z : Type 0} where
  -- ---- what is done to the boxes is done to the operations

  cond-lookup : (b : Bool) (x : Box (LiveOperation I) Z) (o : Option (Box (LiveOperation I) Z)) → cond b (Some x.value) (option_map box_value o) ≡ option_map box_value (cond b (Some x) o)
  cond-lookup true x o = refl
  cond-lookup false x o = refl

  pub lookup-unboxed : (p : ℕ → Bool) (es : List (ℕ × Box (LiveOperation I) Z)) → lookup p (unboxed es) ≡ option_map box_value (lookup p es)
  lookup-unboxed p [] = refl
  lookup-unboxed p (e ∷ es) = ap (λ o. cond (p e.0) (Some e.1.value) o) (lookup-unboxed p es) ∙ cond-lookup (p e.0) e.1 (lookup p es)

  cond-unboxed : (b : Bool) (es fs : List (ℕ × Box (LiveOperation I) Z)) → unboxed (cond b es fs) ≡ cond b (unboxed es) (unboxed fs)
  cond-unboxed true es fs = refl
  cond-unboxed false es fs = refl

  pub remove-unboxed : (p : ℕ → Bool) (es : List (ℕ × Box (LiveOperation I) Z)) → unboxed (remove_entry p es) ≡ remove_entry p (unboxed es)
  remove-unboxed p [] = refl
  remove-unboxed p (e ∷ es) =
      cond-unboxed (p e.0) es (e ∷ remove_entry p es)
      ∙ ap (λ fs. cond (p e.0) (unboxed es) ((e.0, e.1.value) ∷ fs)) (remove-unboxed p es)

  pub set-unboxed : (p : ℕ → Bool) (es : List (ℕ × Box (LiveOperation I) Z)) (b : Box (LiveOperation I) Z) → unboxed (set_value p es b) ≡ set_value p (unboxed es) b.value
  set-unboxed p [] b = refl
  set-unboxed p (e ∷ es) b =
      cond-unboxed (p e.0) ((e.0, b) ∷ es) (e ∷ set_value p es b)
      ∙ ap (λ fs. cond (p e.0) ((e.0, b.value) ∷ unboxed es) ((e.0, e.1.value) ∷ fs)) (set-unboxed p es b)

  pub filter-unboxed : (p : ℕ → Bool) (es : List (ℕ × Box (LiveOperation I) Z))
      → unboxed (filter (λ (e : ℕ × Box (LiveOperation I) Z). p e.0) es) ≡ filter (λ (e : ℕ × LiveOperation I). p e.0) (unboxed es)
  filter-unboxed p [] = refl
  filter-unboxed p (e ∷ es) =
      let rest = filter (λ (f : ℕ × Box (LiveOperation I) Z). p f.0) es in
      cond-unboxed (p e.0) (e ∷ rest) rest
      ∙ ap (λ fs. cond (p e.0) ((e.0, e.1.value) ∷ fs) fs) (filter-unboxed p es)

  ordered-unboxed : (o : Ordering) (es fs gs : List (ℕ × Box (LiveOperation I) Z)) → unboxed (match_ordering o es fs gs) ≡ match_ordering o (unboxed es) (unboxed fs) (unboxed gs)
  ordered-unboxed Less es fs gs = refl
  ordered-unboxed Equal es fs gs = refl
  ordered-unboxed Greater es fs gs = refl

  pub insert-unboxed : (es : List (ℕ × Box (LiveOperation I) Z)) (n : ℕ) (b : Box (LiveOperation I) Z) → unboxed (insert_entry nat_cmp es n b) ≡ insert_entry nat_cmp (unboxed es) n b.value
  insert-unboxed [] n b = refl
  insert-unboxed (e ∷ es) n b =
      ordered-unboxed (nat_cmp n e.0) ((n, b) ∷ e ∷ es) ((e.0, b) ∷ es) (e ∷ insert_entry nat_cmp es n b)
      ∙ ap (λ fs. match_ordering (nat_cmp n e.0) ((n, b.value) ∷ (e.0, e.1.value) ∷ unboxed es) ((e.0, b.value) ∷ unboxed es) ((e.0, e.1.value) ∷ fs)) (insert-unboxed es n b)

  -- ---- what the map has

  pub found_box : (n : ℕ) (es : List (ℕ × Box (LiveOperation I) Z)) (s : BTreeSet Reader) (scanned : ℕ) (ks : List (LiveOperation I)) (o : Option (Box (LiveOperation I) Z)) → IsIndexed (unboxed es) s scanned → values_of (unboxed es) ≡ ks
      → o ≡ lookup (is_at (nat_cmp n)) es → option_map box_value o ≡ find_live n ks
  found_box n es s scanned ks o indexed e same =
      ap (option_map box_value) same ∙ sym (lookup-unboxed (is_at (nat_cmp n)) es) ∙ found_in n (unboxed es) s scanned ks indexed e

  pub first_box : (n : ℕ) (es : List (ℕ × Box (LiveOperation I) Z)) (s : BTreeSet Reader) (scanned : ℕ) (ks : List (LiveOperation I)) (r : List (ℕ × Box (LiveOperation I) Z)) → IsIndexed (unboxed es) s scanned → values_of (unboxed es) ≡ ks
      → r ≡ filter (λ (e : ℕ × Box (LiveOperation I) Z). is_le (nat_cmp n e.0) && true) es → first_of (unboxed r) ≡ first_from n ks
  first_box n es s scanned ks r indexed e between =
      from_range n (unboxed es) s scanned ks (unboxed r) indexed e (ap unboxed between ∙ filter-unboxed (λ q. is_le (nat_cmp n q) && true) es)

  is_boxed : (o : Option (Box (LiveOperation I) Z)) → IsSome (option_map box_value o) → IsSome o
  is_boxed None some = some
  is_boxed (Some b) some = refl

  -- what is there is there in a box
  pub there_boxed : (p : ℕ → Bool) (es : List (ℕ × Box (LiveOperation I) Z)) → IsSome (lookup p (unboxed es)) → IsSome (lookup p es)
  there_boxed p es some = is_boxed (lookup p es) (subst IsSome (lookup-unboxed p es) some)

  pub none_boxed : (p : ℕ → Bool) (es : List (ℕ × Box (LiveOperation I) Z)) → lookup p es ≡ None → lookup p (unboxed es) ≡ None
  none_boxed p es none = lookup-unboxed p es ∙ ap (option_map box_value) none

  length-unboxed : (es : List (ℕ × Box (LiveOperation I) Z)) → length (values_of (unboxed es)) ≡ length es
  length-unboxed [] = refl
  length-unboxed (e ∷ es) = ap suc (length-unboxed es)

  at_boxed : (es : List (ℕ × Box (LiveOperation I) Z)) (x : ℕ) → slice_get (values_of (unboxed es)) x ≡ option_map (λ e. e.1.value) (slice_get es x)
  at_boxed [] x = refl
  at_boxed (e ∷ es) zero = refl
  at_boxed (e ∷ es) (suc x) = at_boxed es x

  pub last_box : (es : List (ℕ × Box (LiveOperation I) Z)) (ks : List (LiveOperation I)) (n : ℕ) (b : Box (LiveOperation I) Z) → values_of (unboxed es) ≡ ks → slice_get es (length es - 1) ≡ Some (n, b)
      → Some b.value ≡ slice_get ks (length ks - 1)
  last_box es ks n b e last =
      sym (ap (option_map (λ (f : ℕ × Box (LiveOperation I) Z). f.1.value)) last) ∙ sym (at_boxed es (length es - 1))
      ∙ ap (λ l. slice_get (values_of (unboxed es)) (l - 1)) (sym (length-unboxed es)) ∙ ap (λ js. slice_get js (length js - 1)) e

  numbers-boxed : (es : List (ℕ × Box (LiveOperation I) Z)) → map (λ (b : Box (LiveOperation I) Z). b.value.number) (values_of es) ≡ numbers_of (values_of (unboxed es))
  numbers-boxed [] = refl
  numbers-boxed (e ∷ es) = ap (λ ns. e.1.value.number ∷ ns) (numbers-boxed es)

  pub boxed_numbers : (es : List (ℕ × Box (LiveOperation I) Z)) (ks : List (LiveOperation I)) → values_of (unboxed es) ≡ ks → map (λ (b : Box (LiveOperation I) Z). b.value.number) (values_of es) ≡ numbers_of ks
  boxed_numbers es ks e = numbers-boxed es ∙ ap numbers_of e

  -- ---- what becomes of it

  inserted_box : (k : LiveOperation I) (b : Box (LiveOperation I) Z) (n : ℕ) (es fs : List (ℕ × Box (LiveOperation I) Z)) → n ≡ k.number → b.value ≡ k → fs ≡ insert_entry nat_cmp es n b → unboxed fs ≡ insert_entry nat_cmp (unboxed es) k.number k
  inserted_box k b n es fs at same inserted =
      ap unboxed inserted ∙ insert-unboxed es n b ∙ ap (λ q. insert_entry nat_cmp (unboxed es) q b.value) at
      ∙ ap (λ v. insert_entry nat_cmp (unboxed es) k.number v) same

  -- one more operation
  pub added_box : (k : LiveOperation I) (b : Box (LiveOperation I) Z) (n : ℕ) (ks : List (LiveOperation I)) (es fs : List (ℕ × Box (LiveOperation I) Z)) (s t : BTreeSet Reader) (scanned : ℕ) → IsIndexed (unboxed es) s scanned → values_of (unboxed es) ≡ ks
      → find_live k.number ks ≡ None → k.number < 2 ^ 32 → n ≡ k.number → b.value ≡ k → fs ≡ insert_entry nat_cmp es n b → EntersAbove scanned k.number k.footprint s t
      → IsIndexed (unboxed fs) t scanned × (values_of (unboxed fs) ≡ insert_live k ks)
  added_box k b n ks es fs s t scanned indexed e none fits at same inserted enters =
      added_to k ks (unboxed es) (unboxed fs) s t scanned indexed e none fits (inserted_box k b n es fs at same inserted) enters

  -- one in the place of another
  pub put_box : (k f : LiveOperation I) (b : Box (LiveOperation I) Z) (n : ℕ) (ks : List (LiveOperation I)) (es fs : List (ℕ × Box (LiveOperation I) Z)) (s t : BTreeSet Reader) (scanned : ℕ) → IsIndexed (unboxed es) s scanned → values_of (unboxed es) ≡ ks
      → find_live k.number ks ≡ Some f → n ≡ k.number → b.value ≡ k → fs ≡ insert_entry nat_cmp es n b → PutsAbove scanned k.number k.footprint f.footprint s t
      → IsIndexed (unboxed fs) t scanned × (values_of (unboxed fs) ≡ put_live k ks)
  put_box k f b n ks es fs s t scanned indexed e found at same inserted puts =
      put_in_place k f ks (unboxed es) (unboxed fs) s t scanned indexed e found (inserted_box k b n es fs at same inserted) puts

  -- one less
  pub removed_box : (n : ℕ) (k : LiveOperation I) (ks : List (LiveOperation I)) (es fs : List (ℕ × Box (LiveOperation I) Z)) (s t : BTreeSet Reader) (scanned : ℕ) → IsIndexed (unboxed es) s scanned → values_of (unboxed es) ≡ ks
      → find_live n ks ≡ Some k → fs ≡ remove_entry (is_at (nat_cmp n)) es → Leaves n k.footprint s t → IsIndexed (unboxed fs) t scanned × (values_of (unboxed fs) ≡ without n ks)
  removed_box n k ks es fs s t scanned indexed e found removed leaves =
      removed_from n k ks (unboxed es) (unboxed fs) s t scanned indexed e found (ap unboxed removed ∙ remove-unboxed (is_at (nat_cmp n)) es) leaves

  -- another inverse
  pub inverse_box : (n : ℕ) (i : I) (k : LiveOperation I) (b : Box (LiveOperation I) Z) (ks : List (LiveOperation I)) (es fs : List (ℕ × Box (LiveOperation I) Z)) (s : BTreeSet Reader) (scanned : ℕ) → IsIndexed (unboxed es) s scanned → values_of (unboxed es) ≡ ks
      → find_live n ks ≡ Some k → b.value ≡ record k { inverse = i } → fs ≡ set_value (is_at (nat_cmp n)) es b → IsIndexed (unboxed fs) s scanned × (values_of (unboxed fs) ≡ with_inverse n i ks)
  inverse_box n i k b ks es fs s scanned indexed e found same put =
      inverse_put n i k ks (unboxed es) (unboxed fs) s scanned indexed e found
      (ap unboxed put ∙ set-unboxed (is_at (nat_cmp n)) es b ∙ ap (set_value (is_at (nat_cmp n)) (unboxed es)) same)
