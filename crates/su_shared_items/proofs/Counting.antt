-- What becomes of the items that may go, and of the bytes that they take.
use Rattle.std.proofs.Common.{◌≡◌, ℕ, ◌+◌, ◌-◌, ◌^◌, ◌<◌, ◌≤◌, zero, suc, Bool, true, false, cond, List, [], ◌∷◌, length, take, refl, sym, ◌∙◌, ap, subst, inl, inr, ◌⊎◌, arith}
use Rattle.std.specs.Prelude.{Option, Some, None, IsSome, IfSome, is_some, option_map, unwrap_or, slice_get, Result, Ok, Err, OnOk, OnErr}
use Rattle.std.specs.Option.{option_map_or}
use Rattle.std.specs.Map.{lookup, lookup_entry, remove_entry, values_of}
use Rattle.std.specs.Str.{bytes_eq}
use Rattle.std.specs.BTreeMap.{is_at, insert_entry}
use Rattle.std.specs.Cmp.Lexicographic.{same_text, slice_cmp}
use Rattle.std.specs.Ordering.{nat_cmp, is_eq, match_ordering}
use Rattle.std.specs.declared.cmp.Ordering.{Ordering}
use Rattle.std.specs.declared.cmp.Ordering.TheVariants.{Less, Equal, Greater}
use Rattle.std.proofs.lemmas.Slice.Eq.{bytes_eq-Decides}
use Rattle.std.proofs.lemmas.Map.Text.{is_eq-slice_cmp}
use Rattle.std.proofs.Math.Seq.{take-length}
use Rattle.std.proofs.lemmas.List.{take_all, take-take, length-take-le}
use Rattle.std.proofs.lemmas.List.Sums.{sum_by-cons}
use Rattle.std.proofs.lemmas.Map.Entries.{sum_by-remove_entry}
use Rattle.std.proofs.lemmas.Option.{slice_get_within}
use Rattle.lru.specs.LruCache.{LruCache, promoted, last_entry, put_entries}
use Rattle.lru.proofs.CallerLemmas.{Contains-lookup_entry}
use Rattle.sha2.specs.Sha256.{sha256}
use Rattle.su_block.specs.Memory.{AreUnderTheirDigests}
use Rattle.su_shared_items.specs.Shard.{cost_of, Items, bytes_of, IsCounted, item_under, with_newest}

abbrev pub size_of : Option (List ℕ) → ℕ
size_of found = unwrap_or (option_map cost_of found) 0

module _ (test : List ℕ → Bool) where
  pub digests-remove_entry : (es : Items) → AreUnderTheirDigests es → AreUnderTheirDigests (remove_entry test es)
  digests-remove_entry [] under = under
  digests-remove_entry (e ∷ es) under = elim (test e.0) as (λ b. AreUnderTheirDigests (cond b es (e ∷ remove_entry test es))) [
    | true ↦ under.1
    | false ↦ (under.0, digests-remove_entry es under.1)
  ]

  -- the entry that is found is under its digest
  own_digest : (es : Items) → AreUnderTheirDigests es → IfSome (lookup_entry test es) (λ e. sha256 e.1 ≡ e.0)
  own_digest [] under = tt
  own_digest (e ∷ es) under = elim (test e.0) as (λ b. IfSome (cond b (Some e) (lookup_entry test es)) (λ e. sha256 e.1 ≡ e.0)) [
    | true ↦ under.0
    | false ↦ own_digest es under.1
  ]

  -- and its item is what is looked up
  pub looked_up : (es : Items) → lookup test es ≡ option_map (λ e. e.1) (lookup_entry test es)
  looked_up [] = refl
  looked_up (e ∷ es) = elim (test e.0) as (λ b. cond b (Some e.1) (lookup test es) ≡ option_map (λ e. e.1) (cond b (Some e) (lookup_entry test es))) [
    | true ↦ refl
    | false ↦ looked_up es
  ]

  pub digests-promoted : (es : Items) → AreUnderTheirDigests es → AreUnderTheirDigests (promoted test es)
  digests-promoted es under = (elim (lookup_entry test es) as (λ o. IfSome o (λ e. sha256 e.1 ≡ e.0) → AreUnderTheirDigests (option_map_or (λ e. e ∷ remove_entry test es) o es)) [
    | None ↦ λ _. under
    | Some e ↦ λ own. (own, digests-remove_entry es under)
  ]) (own_digest es under)

  pub bytes_of-remove_entry : (es : Items) → bytes_of (remove_entry test es) + size_of (lookup test es) ≡ bytes_of es
  bytes_of-remove_entry es = sum_by-remove_entry cost_of test es

  pub bytes_of-promoted : (es : Items) → bytes_of (promoted test es) ≡ bytes_of es
  bytes_of-promoted es = (elim (lookup_entry test es) as (λ o. lookup test es ≡ option_map (λ e. e.1) o → bytes_of (option_map_or (λ e. e ∷ remove_entry test es) o es) ≡ bytes_of es) [
    | None ↦ λ _. refl
    | Some e ↦ λ is. sum_by-cons cost_of e.1 (values_of (remove_entry test es)) ∙ omega (arith, ap size_of is, bytes_of-remove_entry es)
  ]) (looked_up es)

  -- to make an item the newest changes no count
  pub counted-promoted : (es : Items) (taken room : ℕ) → IsCounted es taken room → IsCounted (promoted test es) taken room
  counted-promoted es taken room was = record {
    digests = digests-promoted es was.digests;
    counted = bytes_of-promoted es ∙ was.counted;
    bounded = was.bounded;
  }

  pub none_removed : (es : Items) → lookup test es ≡ None → remove_entry test es ≡ es
  none_removed [] = λ none. refl
  none_removed (e ∷ es) = elim (test e.0) as (λ b. cond b (Some e.1) (lookup test es) ≡ None → cond b es (e ∷ remove_entry test es) ≡ e ∷ es) [
    | true ↦ λ none. absurd (cc)
    | false ↦ λ none. ap (λ l. e ∷ l) (none_removed es none)
  ]

  -- what is looked up by a test that only one digest passes has that digest
  pub found_has_digest : (d : List ℕ) → ((k : List ℕ) → test k ≡ true → k ≡ d) → (es : Items) → AreUnderTheirDigests es → (v : List ℕ) → lookup test es ≡ Some v → sha256 v ≡ d
  found_has_digest d one [] under v = λ is. absurd (cc)
  found_has_digest d one (e ∷ es) under v = (elim (test e.0) as (λ b. test e.0 ≡ b → cond b (Some e.1) (lookup test es) ≡ Some v → sha256 v ≡ d) [
    | true ↦ λ same is. (let here : e.1 ≡ v = cc in ap sha256 (sym here) ∙ under.0 ∙ one e.0 same)
    | false ↦ λ same is. found_has_digest d one es under.1 v is
  ]) refl

pub digests-take : (n : ℕ) (es : Items) → AreUnderTheirDigests es → AreUnderTheirDigests (take n es)
digests-take zero es under = tt
digests-take (suc n) [] under = under
digests-take (suc n) (e ∷ es) under = (under.0, digests-take n es under.1)

pub one_digest : (d k : List ℕ) → bytes_eq d k ≡ true → k ≡ d
one_digest d k same = sym (same_text d k (sym same))

-- what is looked up by a digest has it
pub found_by_digest : (d : List ℕ) (es : Items) → AreUnderTheirDigests es → (v : List ℕ) → lookup (bytes_eq d) es ≡ Some v → sha256 v ≡ d
found_by_digest d = found_has_digest (bytes_eq d) d (one_digest d)

-- ---- what goes

bytes_of-more : (es : Items) (i : ℕ) (e : List ℕ × List ℕ) → slice_get es i ≡ Some e → bytes_of (take (suc i) es) ≡ bytes_of (take i es) + cost_of e.1
bytes_of-more [] i e is = absurd (cc)
bytes_of-more (x ∷ xs) zero e is = let same : x ≡ e = cc in ap (λ y. 0 + cost_of y.1) same
bytes_of-more (x ∷ xs) (suc i) e is =
    sum_by-cons cost_of x.1 (values_of (take (suc i) xs))
    ∙ omega (arith, bytes_of-more xs i e is, sum_by-cons cost_of x.1 (values_of (take i xs)))

-- the last one, beside the others
pub bytes_of-last : (es : Items) (e : List ℕ × List ℕ) → last_entry es ≡ Some e → bytes_of (take (length es - 1) es) + cost_of e.1 ≡ bytes_of es
bytes_of-last es e is =
    let within = slice_get_within es (length es - 1) e is in
    let all : suc (length es - 1) ≡ length es = omega (arith, within) in
    sym (bytes_of-more es (length es - 1) e is) ∙ ap (λ n. bytes_of (take n es)) all ∙ ap bytes_of (take-length es)

-- these are left of those, and no fewer than had to be for so many bytes
pub record IsLeft (size room : ℕ) (old now : Items) : Type 0 where
  pub left : ℕ
  pub items : now ≡ take left old
  pub within : left ≤ length old
  pub needed : left < length old → room < bytes_of (take (left + 1) old) + size

pub all_left : (size room : ℕ) (old : Items) → IsLeft size room old old
all_left size room old = record {
  left = length old;
  items = sym (take-length old);
  within = omega arith;
  needed = λ less. absurd (omega (arith, less));
}

pub one_less : (size room : ℕ) (old now : Items) → IsLeft size room old now → 0 < length now → room < bytes_of now + size → IsLeft size room old (take (length now - 1) now)
one_less size room old now was some full =
    let count : length now ≡ was.left = ap length was.items ∙ length-take-le was.left old was.within in
    let less : length now - 1 ≤ was.left = omega (arith, count) in
    let same : length now - 1 + 1 ≡ was.left = omega (arith, count, some) in
    let again : take (length now - 1 + 1) old ≡ now = ap (λ n. take n old) same ∙ sym was.items in
    record {
      left = length now - 1;
      items = ap (take (length now - 1)) was.items ∙ take-take (length now - 1) was.left old less;
      within = omega (arith, count, was.within);
      needed = λ _. subst (λ l. room < bytes_of l + size) (sym again) full;
    }

-- ---- what is added

put_in_front : (k v : List ℕ) (es : Items) (n : ℕ) → length es ≤ n → (o : Option (List ℕ × List ℕ)) → lookup_entry (bytes_eq k) es ≡ o → lookup (bytes_eq k) es ≡ option_map (λ e. e.1) o
    → option_map_or (λ e. (e.0, v) ∷ remove_entry (bytes_eq k) es) o ((k, v) ∷ take n es) ≡ with_newest k v es
put_in_front k v es n fits None found none = ap (λ l. (k, v) ∷ l) (take_all n es fits ∙ sym (none_removed (bytes_eq k) es none))
put_in_front k v es n fits (Some e) found some = ap (λ d. (d, v) ∷ remove_entry (bytes_eq k) es) (one_digest k e.0 (Contains-lookup_entry (bytes_eq k) es e found).1)

-- what is put into a cache that is never full is in front
pub put_is_newest : (c : LruCache (List ℕ) (List ℕ)) (k v : List ℕ) → c.cap ≡ 2 ^ 64 - 1 → length c.entries < 2 ^ 63 → put_entries bytes_eq c k v ≡ with_newest k v c.entries
put_is_newest c k v unbounded few =
    let fits : length c.entries ≤ c.cap - 1 = omega (arith, unbounded, few) in
    put_in_front k v c.entries (c.cap - 1) fits (lookup_entry (bytes_eq k) c.entries) refl (looked_up (bytes_eq k) c.entries)

-- ---- the count

pub counted-remove_entry : (test : List ℕ → Bool) (es : Items) (v : List ℕ) (taken room : ℕ) → IsCounted es taken room → lookup test es ≡ Some v
    → (cost_of v ≤ taken) × IsCounted (remove_entry test es) (taken - cost_of v) room
counted-remove_entry test es v taken room was found =
    let size : size_of (lookup test es) ≡ cost_of v = ap size_of found in
    let bytes = bytes_of-remove_entry test es in (
      omega (arith, size, bytes, was.counted),
      record {
        digests = digests-remove_entry test es was.digests;
        counted = omega (arith, size, bytes, was.counted);
        bounded = omega (arith, was.bounded);
      },
    )

pub counted-last : (es : Items) (e : List ℕ × List ℕ) (taken room : ℕ) → IsCounted es taken room → last_entry es ≡ Some e
    → (cost_of e.1 ≤ taken) × (0 < length es) × IsCounted (take (length es - 1) es) (taken - cost_of e.1) room
counted-last es e taken room was last =
    let bytes = bytes_of-last es e last in (
      omega (arith, bytes, was.counted),
      omega (arith, slice_get_within es (length es - 1) e last),
      record {
        digests = digests-take (length es - 1) es was.digests;
        counted = omega (arith, bytes, was.counted);
        bounded = omega (arith, was.bounded);
      },
    )

pub counted-newest : (k v : List ℕ) (es : Items) (taken room : ℕ) → IsCounted es taken room → sha256 v ≡ k → taken + cost_of v ≤ room
    → (size_of (lookup (bytes_eq k) es) ≤ taken + cost_of v) × IsCounted (with_newest k v es) (taken + cost_of v - size_of (lookup (bytes_eq k) es)) room
counted-newest k v es taken room was own fits =
    let bytes = bytes_of-remove_entry (bytes_eq k) es in
    let more = sum_by-cons cost_of v (values_of (remove_entry (bytes_eq k) es)) in (
      omega (arith, bytes, was.counted),
      record {
        digests = (own, digests-remove_entry (bytes_eq k) es was.digests);
        counted = omega (arith, bytes, more, was.counted);
        bounded = omega (arith, fits);
      },
    )

-- the count after a put: what was under the digest no longer counts
pub counted-put : (c : LruCache (List ℕ) (List ℕ)) (k v : List ℕ) (taken room : ℕ) (older : Option (List ℕ)) → IsCounted c.entries taken room → c.cap ≡ 2 ^ 64 - 1 → length c.entries < 2 ^ 63
    → sha256 v ≡ k → bytes_of c.entries + cost_of v ≤ room → older ≡ lookup (bytes_eq k) c.entries
    → (size_of older ≤ taken + cost_of v) × IsCounted (put_entries bytes_eq c k v) (taken + cost_of v - size_of older) room
counted-put c k v taken room older was unbounded few own fits old =
    rw (put_is_newest c k v unbounded few, old) (counted-newest k v c.entries taken room was own (omega (arith, fits, was.counted)))

-- the keys of a tree are compared as digests are
pub by_digest : {X : Type 0} (d : List ℕ) (es : List (List ℕ × X)) → lookup (is_at (slice_cmp nat_cmp d)) es ≡ lookup (bytes_eq d) es
by_digest d es = λ i. lookup (λ k. is_eq-slice_cmp d k i) es

pub removed_by_digest : (d : List ℕ) (es : Items) → remove_entry (is_at (slice_cmp nat_cmp d)) es ≡ remove_entry (bytes_eq d) es
removed_by_digest d es = λ i. remove_entry (λ k. is_eq-slice_cmp d k i) es

pub at_digest : {X : Type 0} (k d : List ℕ) (es : List (List ℕ × X)) → k ≡ d → lookup (is_at (slice_cmp nat_cmp k)) es ≡ lookup (bytes_eq d) es
at_digest k d es same = by_digest k es ∙ ap (λ e. lookup (bytes_eq e) es) same

pub removed_at_digest : (k d : List ℕ) (es : Items) → k ≡ d → remove_entry (is_at (slice_cmp nat_cmp k)) es ≡ remove_entry (bytes_eq d) es
removed_at_digest k d es same = removed_by_digest k es ∙ ap (λ e. remove_entry (bytes_eq e) es) same

-- ---- those that stay

-- what is lent has the digest that each of the items found has
pub lent_has_digest : {X : Type 0} (f : X → List ℕ) (o : Option X) (d : List ℕ) → ((v : List ℕ) → option_map f o ≡ Some v → sha256 v ≡ d) → IfSome o (λ x. sha256 (f x) ≡ d)
lent_has_digest f None d own = tt
lent_has_digest f (Some x) d own = own (f x) refl

same_digest : (d k : List ℕ) → is_at (slice_cmp nat_cmp d) k ≡ true → k ≡ d
same_digest d k is = one_digest d k (sym (is_eq-slice_cmp d k) ∙ is)

module _ (k v : List ℕ) (own : sha256 v ≡ k) where
  put_at : (o : Ordering) (e : List ℕ × List ℕ) (es more : Items) → (o ≡ Equal → k ≡ e.0) → AreUnderTheirDigests (e ∷ es) → AreUnderTheirDigests more
      → AreUnderTheirDigests (match_ordering o ((k, v) ∷ e ∷ es) ((e.0, v) ∷ es) (e ∷ more))
  put_at Less e es more same under rest = (own, under)
  put_at Equal e es more same under rest = (own ∙ same refl, under.1)
  put_at Greater e es more same under rest = (under.0, rest)

  -- one item more, under its digest
  pub digests-insert_entry : (es : Items) → AreUnderTheirDigests es → AreUnderTheirDigests (insert_entry (slice_cmp nat_cmp) es k v)
  digests-insert_entry [] under = (own, tt)
  digests-insert_entry (e ∷ es) under =
      put_at (slice_cmp nat_cmp k e.0) e es (insert_entry (slice_cmp nat_cmp) es k v) (λ equal. sym (same_digest k e.0 (ap is_eq equal))) under (digests-insert_entry es under.1)

module _ (k v : List ℕ) where
  bytes_at : (o : Ordering) (e : List ℕ × List ℕ) (es more : Items) → slice_cmp nat_cmp k e.0 ≡ o → cond (is_eq o) (Some e.1) (lookup (is_at (slice_cmp nat_cmp k)) es) ≡ None
      → (lookup (is_at (slice_cmp nat_cmp k)) es ≡ None → bytes_of more ≡ bytes_of es + cost_of v)
      → bytes_of (match_ordering o ((k, v) ∷ e ∷ es) ((e.0, v) ∷ es) (e ∷ more)) ≡ bytes_of (e ∷ es) + cost_of v
  bytes_at Less e es more is none rest = sum_by-cons cost_of v (values_of (e ∷ es)) ∙ omega arith
  bytes_at Equal e es more is none rest = absurd (cc)
  bytes_at Greater e es more is none rest =
      sum_by-cons cost_of e.1 (values_of more) ∙ omega (arith, rest none, sum_by-cons cost_of e.1 (values_of es))

  -- one item more, where there was none
  pub bytes_of-insert_entry : (es : Items) → lookup (is_at (slice_cmp nat_cmp k)) es ≡ None → bytes_of (insert_entry (slice_cmp nat_cmp) es k v) ≡ bytes_of es + cost_of v
  bytes_of-insert_entry [] none = refl
  bytes_of-insert_entry (e ∷ es) none =
      bytes_at (slice_cmp nat_cmp k e.0) e es (insert_entry (slice_cmp nat_cmp) es k v) refl none (bytes_of-insert_entry es)

-- the count of those that stay, with one more
pub counted-insert_entry : (k v : List ℕ) (es : Items) (taken room : ℕ) → IsCounted es taken room → sha256 v ≡ k → lookup (is_at (slice_cmp nat_cmp k)) es ≡ None → taken + cost_of v ≤ room
    → IsCounted (insert_entry (slice_cmp nat_cmp) es k v) (taken + cost_of v) room
counted-insert_entry k v es taken room was own none fits = record {
  digests = digests-insert_entry k v own es was.digests;
  counted = bytes_of-insert_entry k v es none ∙ ap (λ n. n + cost_of v) was.counted;
  bounded = fits;
}

pub within_room : (es : Items) (taken room : ℕ) → IsCounted es taken room → bytes_of es ≤ room
within_room es taken room is = omega (arith, is.counted, is.bounded)

-- what stayed stays where an item is put under another digest
pub stays-insert : (k v : List ℕ) (old new : Items)
    → ((q : List ℕ) → lookup (is_at (slice_cmp nat_cmp q)) new ≡ cond (is_at (slice_cmp nat_cmp k) q) (Some v) (lookup (is_at (slice_cmp nat_cmp q)) old))
    → is_some (lookup (is_at (slice_cmp nat_cmp k)) old) ≡ false
    → (d item : List ℕ) → item_under old d ≡ Some item → item_under new d ≡ Some item
stays-insert k v old new updates none d item is = sym (by_digest d new) ∙ updates d ∙ at (is_at (slice_cmp nat_cmp k) d) refl where
  at : (b : Bool) → is_at (slice_cmp nat_cmp k) d ≡ b → cond b (Some v) (lookup (is_at (slice_cmp nat_cmp d)) old) ≡ Some item
  at true same =
      let here : lookup (is_at (slice_cmp nat_cmp k)) old ≡ Some item = by_digest k old ∙ ap (item_under old) (sym (same_digest k d same)) ∙ is in
      let no : true ≡ false = sym (ap is_some here) ∙ none in
      absurd (cc)
  at false same = by_digest d old ∙ is

-- an item that is the newest is there
pub newest_is_there : (d v : List ℕ) (es : Items) → IsSome (item_under (with_newest d v es) d)
newest_is_there d v es = subst (λ b. IsSome (cond b (Some v) (lookup (bytes_eq d) (remove_entry (bytes_eq d) es)))) (sym ((bytes_eq-Decides d d).1 refl)) refl

promoted_is_there : (d : List ℕ) (es : Items) (o : Option (List ℕ × List ℕ)) → lookup_entry (bytes_eq d) es ≡ o → lookup (bytes_eq d) es ≡ option_map (λ e. e.1) o
    → is_some (lookup (bytes_eq d) es) ≡ true → IsSome (item_under (option_map_or (λ e. e ∷ remove_entry (bytes_eq d) es) o es) d)
promoted_is_there d es None found none is = let no : false ≡ true = sym (ap is_some none) ∙ is in absurd (cc)
promoted_is_there d es (Some e) found some is =
    subst (λ b. IsSome (cond b (Some e.1) (lookup (bytes_eq d) (remove_entry (bytes_eq d) es)))) (sym (Contains-lookup_entry (bytes_eq d) es e found).1) refl

-- an item that was there is there as the newest
pub still_there : (d : List ℕ) (es : Items) → is_some (item_under es d) ≡ true → IsSome (item_under (promoted (bytes_eq d) es) d)
still_there d es = promoted_is_there d es (lookup_entry (bytes_eq d) es) refl (looked_up (bytes_eq d) es)

pub either : {V E A B : Type 0} (r : Result V E) → OnOk r A → OnErr r B → A ⊎ B
either (Ok v) ok err = inl ok
either (Err e) ok err = inr err
