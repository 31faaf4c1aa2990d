-- What becomes of the items that are kept.
use Rattle.std.proofs.Common.{◌≡◌, ℕ, ◌+◌, ◌-◌, ◌<◌, ◌≤◌, zero, suc, Bool, true, false, cond, List, [], ◌∷◌, length, take, refl, sym, ◌∙◌, ap, subst, inl, inr, ◌⊎◌, arith}
use Rattle.std.specs.Prelude.{Option, Some, None, Contains, option_map, Result, Ok, Err, OnOk, OnErr}
use Rattle.std.specs.Option.{option_map_or}
use Rattle.std.specs.Map.{lookup, lookup_entry, remove_entry, values_of}
use Rattle.std.specs.Str.{bytes_eq}
use Rattle.std.specs.Cmp.Lexicographic.{same_text}
use Rattle.std.proofs.lemmas.List.{take_all, length-take}
use Rattle.std.proofs.lemmas.Map.Made.{Contains-values_of, Contains-from_values_of}
use Rattle.lru.specs.LruCache.{LruCache, lru_cache, promoted, put_entries}
use Rattle.lru.proofs.CallerLemmas.{Contains-take, Contains-remove_entry, Contains-lookup, Contains-lookup_entry}
use Rattle.lru.proofs.Pairs.{lookup-lookup_entry}
use Rattle.lru.proofs.Splits.{Contains-cons, all_at, all_from}
use Rattle.sha2.specs.Sha256.{sha256}
use Rattle.su_block.specs.Memory.{AreUnderTheirDigests}
use Rattle.su_block_cache.specs.Kept.{Items, Kept, IsWithin, Keeps, item_under, with_newest}
use Rattle.su_block_cache.specs.Cache.{Cache, MayGive, IsKept}

abbrev Entry : Type 0
Entry = List ℕ × List ℕ

one_digest : (d k : List ℕ) → bytes_eq d k ≡ true → k ≡ d
one_digest d k same = sym (same_text d k (sym same))

-- ---- an item that is the newest

take_front : (n : ℕ) (e : Entry) (es : Items) → 0 < n → take n (e ∷ es) ≡ e ∷ take (n - 1) es
take_front zero e es some = absurd (omega (arith, some))
take_front (suc n) e es some = let less : suc n - 1 ≡ n = omega arith in ap (λ k. e ∷ take k es) (sym less)

pub within-newest : (n : ℕ) (d v : List ℕ) (es : Items) → length (with_newest n d v es) ≤ n
within-newest n d v es = omega (arith, length-take n ((d, v) ∷ remove_entry (bytes_eq d) es))

-- each is the newest, or was there
newest_cases : (n : ℕ) (d v : List ℕ) (es : Items) (e : Entry) → Contains (with_newest n d v es) e → ((d, v) ≡ e) ⊎ Contains es e
newest_cases n d v es e there =
    let all = (d, v) ∷ remove_entry (bytes_eq d) es in
    elim (Contains-cons (d, v) (remove_entry (bytes_eq d) es) e (Contains-take n all e there)) [
      | inl same ↦ inl same
      | inr other ↦ inr (Contains-remove_entry (bytes_eq d) es e other)
    ]

values-newest : (n : ℕ) (d v : List ℕ) (es : Items) (s : List ℕ) → Contains (values_of (with_newest n d v es)) s → Contains (values_of es) s ⊎ (s ≡ v)
values-newest n d v es s there =
    let at = Contains-from_values_of (with_newest n d v es) s there in
    elim (newest_cases n d v es (at.0, s) at.1) [
      | inl same ↦ inr (sym (ap (λ (e : Entry). e.1) same))
      | inr other ↦ inl (Contains-values_of es at.0 s other)
    ]

abbrev IsUnder : Entry → Type 0
IsUnder e = sha256 e.1 ≡ e.0

digests-newest : (n : ℕ) (d v : List ℕ) (es : Items) → sha256 v ≡ d → AreUnderTheirDigests es → AreUnderTheirDigests (with_newest n d v es)
digests-newest n d v es own under = all_from IsUnder (with_newest n d v es) (λ e there. elim (newest_cases n d v es e there) [
  | inl same ↦ subst IsUnder same own
  | inr other ↦ all_at IsUnder es e under other
])

-- ---- what is found

found_by_digest : (d : List ℕ) (es : Items) → AreUnderTheirDigests es → (v : List ℕ) → item_under es d ≡ Some v → sha256 v ≡ d
found_by_digest d es under v is =
    let at = Contains-lookup (bytes_eq d) es v is in
    all_at IsUnder es (at.0, v) under at.1 ∙ one_digest d at.0 at.2

pub found_is_kept : (d : List ℕ) (es : Items) (v : List ℕ) → item_under es d ≡ Some v → Contains (values_of es) v
found_is_kept d es v is = let at = Contains-lookup (bytes_eq d) es v is in Contains-values_of es at.0 v at.1

module _ (test : List ℕ → Bool) where
  length-removed : (es : Items) (e : Entry) → lookup_entry test es ≡ Some e → length (remove_entry test es) + 1 ≡ length es
  length-removed [] e = λ is. absurd (cc)
  length-removed (f ∷ es) e = elim (test f.0) as (λ b. cond b (Some f) (lookup_entry test es) ≡ Some e → length (cond b es (f ∷ remove_entry test es)) + 1 ≡ length (f ∷ es)) [
    | true ↦ λ is. omega arith
    | false ↦ λ is. omega (arith, length-removed es e is)
  ]

  none_removed : (es : Items) → lookup test es ≡ None → remove_entry test es ≡ es
  none_removed [] = λ none. refl
  none_removed (e ∷ es) = elim (test e.0) as (λ b. cond b (Some e.1) (lookup test es) ≡ None → cond b es (e ∷ remove_entry test es) ≡ e ∷ es) [
    | true ↦ λ none. absurd (cc)
    | false ↦ λ none. ap (λ l. e ∷ l) (none_removed es none)
  ]

-- ---- what the cache does

-- an entry that is found under the digest, with this item, is the newest
module _ (n : ℕ) (d v : List ℕ) (es : Items) where
  in_place : (e : Entry) → length es ≤ n → lookup_entry (bytes_eq d) es ≡ Some e → (e.0, v) ∷ remove_entry (bytes_eq d) es ≡ with_newest n d v es
  in_place e within found =
      let same : e.0 ≡ d = one_digest d e.0 (Contains-lookup_entry (bytes_eq d) es e found).1 in
      let fits : length ((d, v) ∷ remove_entry (bytes_eq d) es) ≤ n = omega (arith, within, length-removed (bytes_eq d) es e found) in
      ap (λ k. (k, v) ∷ remove_entry (bytes_eq d) es) same ∙ sym (take_all n ((d, v) ∷ remove_entry (bytes_eq d) es) fits)

  promoted_by : (o : Option Entry) → length es ≤ n → lookup_entry (bytes_eq d) es ≡ o → option_map (λ e. e.1) o ≡ Some v
      → option_map_or (λ e. e ∷ remove_entry (bytes_eq d) es) o es ≡ with_newest n d v es
  promoted_by None within found is = absurd (cc)
  promoted_by (Some e) within found is =
      let item : e.1 ≡ v = cc in
      ap (λ i. (e.0, i) ∷ remove_entry (bytes_eq d) es) item ∙ in_place e within found

  -- an item that is used is the newest
  pub promoted_is_newest : length es ≤ n → item_under es d ≡ Some v → promoted (bytes_eq d) es ≡ with_newest n d v es
  promoted_is_newest within is =
      promoted_by (lookup_entry (bytes_eq d) es) within refl (lookup-lookup_entry (bytes_eq d) es ∙ is)

  put_by : (o : Option Entry) → IsWithin es n → lookup_entry (bytes_eq d) es ≡ o → option_map (λ e. e.1) o ≡ lookup (bytes_eq d) es
      → option_map_or (λ e. (e.0, v) ∷ remove_entry (bytes_eq d) es) o ((d, v) ∷ take (n - 1) es) ≡ with_newest n d v es
  put_by None within found none =
      let rest : remove_entry (bytes_eq d) es ≡ es = none_removed (bytes_eq d) es (sym none) in
      sym (take_front n (d, v) es within.some) ∙ ap (λ l. take n ((d, v) ∷ l)) (sym rest)
  put_by (Some e) within found some = in_place e within.within found

  -- an item that is put is the newest
  pub put_is_newest : IsWithin es n → option_map_or (λ e. (e.0, v) ∷ remove_entry (bytes_eq d) es) (lookup_entry (bytes_eq d) es) ((d, v) ∷ take (n - 1) es) ≡ with_newest n d v es
  put_is_newest within = put_by (lookup_entry (bytes_eq d) es) within refl (lookup-lookup_entry (bytes_eq d) es)

module _ (n : ℕ) (d : List ℕ) (es : Items) where
  missed_by : (o : Option Entry) → option_map (λ e. e.1) o ≡ None → option_map_or (λ e. e ∷ remove_entry (bytes_eq d) es) o es ≡ es
  missed_by None none = refl
  missed_by (Some e) none = absurd (cc)

  -- where there is none, nothing changes
  pub promoted_is_same : item_under es d ≡ None → promoted (bytes_eq d) es ≡ es
  promoted_is_same none = missed_by (lookup_entry (bytes_eq d) es) (lookup-lookup_entry (bytes_eq d) es ∙ none)

  within_by : (o : Option (List ℕ)) → item_under es d ≡ o → IsWithin es n → IsWithin (promoted (bytes_eq d) es) n
  within_by None none was = subst (λ l. IsWithin l n) (sym (promoted_is_same none)) was
  within_by (Some v) found was = subst (λ l. IsWithin l n) (sym (promoted_is_newest n d v es was.within found)) (record {
    some = was.some;
    within = within-newest n d v es;
  })

  pub within-promoted : IsWithin es n → IsWithin (promoted (bytes_eq d) es) n
  within-promoted = within_by (item_under es d) refl

within-put : (n : ℕ) (d v : List ℕ) (es new : Items) → IsWithin es n → new ≡ with_newest n d v es → IsWithin new n
within-put n d v es new was is = subst (λ l. IsWithin l n) (sym is) (record { some = was.some; within = within-newest n d v es })

-- what is known after a call that may be refused
pub either : {V E A B : Type 0} (r : Result V E) → OnOk r A → OnErr r B → A ⊎ B
either (Ok v) ok err = inl ok
either (Err e) ok err = inr err

abbrev Entries : Type 0
Entries = LruCache (List ℕ) (List ℕ)

abbrev kept_by : Entries → Kept
kept_by cache = record { items = cache.entries; capacity = cache.cap }

-- a cache in which an item was put, or for which there was no memory
module _ (k v : List ℕ) (was new : Entries) (within : IsWithin was.entries was.cap) (put : (new ≡ lru_cache (put_entries bytes_eq was k v) was.cap) ⊎ (new ≡ was)) where
  pub within-after_put : IsWithin new.entries new.cap
  within-after_put = elim put [
    | inl is ↦ subst (λ (m : Entries). IsWithin m.entries m.cap) (sym is) (within-put was.cap k v was.entries (put_entries bytes_eq was k v) within (put_is_newest was.cap k v was.entries within))
    | inr same ↦ subst (λ (m : Entries). IsWithin m.entries m.cap) (sym same) within
  ]

  keeps_here : Keeps was.cap k v was.entries new.entries
  keeps_here = elim put [
    | inl is ↦ inl (ap (λ (m : Entries). m.entries) is ∙ put_is_newest was.cap k v was.entries within)
    | inr same ↦ inr (ap (λ (m : Entries). m.entries) same)
  ]

  pub keeps-after_put : (now : Kept) (d item : List ℕ) → kept_by was ≡ now → k ≡ d → v ≡ item → Keeps now.capacity d item now.items new.entries
  keeps-after_put now d item view same_key same_item =
      subst (λ (m : Kept). Keeps m.capacity d item m.items new.entries) view
      (subst (λ (key : List ℕ). Keeps was.cap key item was.entries new.entries) same_key
      (subst (λ (value : List ℕ). Keeps was.cap k value was.entries new.entries) same_item keeps_here))

  pub cap-after_put : (now : Kept) → kept_by was ≡ now → new.cap ≡ now.capacity
  cap-after_put now view = here ∙ ap (λ (m : Kept). m.capacity) view where
    here : new.cap ≡ was.cap
    here = elim put [
      | inl is ↦ ap (λ (m : Entries). m.cap) is
      | inr same ↦ ap (λ (m : Entries). m.cap) same
    ]

-- a cache in which an item was asked for
module _ (k d : List ℕ) (was new : Entries) (now : Kept) (within : IsWithin was.entries was.cap) (view : kept_by was ≡ now) (same : k ≡ d) where
  pub seen_under : item_under was.entries k ≡ item_under now.items d
  seen_under = ap (item_under was.entries) same ∙ ap (λ (m : Kept). item_under m.items d) view

  pub newest-after_get : new ≡ lru_cache (promoted (bytes_eq k) was.entries) was.cap → (v : List ℕ) → item_under now.items d ≡ Some v → new.entries ≡ with_newest now.capacity d v now.items
  newest-after_get is v found =
      ap (λ (m : Entries). m.entries) is
      ∙ promoted_is_newest was.cap k v was.entries within.within (seen_under ∙ found)
      ∙ ap (λ (key : List ℕ). with_newest was.cap key v was.entries) same
      ∙ ap (λ (m : Kept). with_newest m.capacity d v m.items) view

  pub same-after_get : new ≡ lru_cache (promoted (bytes_eq k) was.entries) was.cap → item_under now.items d ≡ None → new.entries ≡ now.items
  same-after_get is none =
      ap (λ (m : Entries). m.entries) is
      ∙ promoted_is_same was.cap k was.entries (seen_under ∙ none)
      ∙ ap (λ (m : Kept). m.items) view

-- ---- what is kept of a source's items

module _ (checked : Bool) (d v : List ℕ) (old new : Kept) (keeps : Keeps old.capacity d v old.items new.items) (capacity : new.capacity ≡ old.capacity) where
  -- one item more is kept, or none
  pub kept-keeps : IsKept checked old → (checked ≡ true → sha256 v ≡ d) → IsKept checked new
  kept-keeps was own = elim keeps [
    | inl is ↦ record {
      within = subst (λ n. IsWithin new.items n) (sym capacity) (within-put old.capacity d v old.items new.items was.within is);
      digests = λ ok. subst AreUnderTheirDigests (sym is) (digests-newest old.capacity d v old.items (own ok) (was.digests ok));
    }
    | inr same ↦ record {
      within = subst (λ n. IsWithin new.items n) (sym capacity) (subst (λ l. IsWithin l old.capacity) (sym same) was.within);
      digests = λ ok. subst AreUnderTheirDigests (sym same) (was.digests ok);
    }
  ]

pub values-keeps : (n : ℕ) (d v : List ℕ) (old new : Items) → Keeps n d v old new → (s : List ℕ) → Contains (values_of new) s → Contains (values_of old) s ⊎ (s ≡ v)
values-keeps n d v old new keeps s there = elim keeps [
  | inl is ↦ values-newest n d v old s (subst (λ l. Contains (values_of l) s) is there)
  | inr same ↦ inl (subst (λ l. Contains (values_of l) s) same there)
]

-- an item that is kept was used, or there is none under the digest
pub record IsUsed (d : List ℕ) (old new : Kept) : Type 0 where
  pub newest : (v : List ℕ) → item_under old.items d ≡ Some v → new.items ≡ with_newest old.capacity d v old.items
  pub none : item_under old.items d ≡ None → new.items ≡ old.items
  pub capacity : new.capacity ≡ old.capacity

module _ (d : List ℕ) (old new : Kept) (used : IsUsed d old new) where
  used_by : (o : Option (List ℕ)) → item_under old.items d ≡ o → (checked : Bool) → IsKept checked old → IsKept checked new
  used_by None none checked was =
      let same : new.items ≡ old.items = used.none none in record {
        within = subst (λ n. IsWithin new.items n) (sym used.capacity) (subst (λ l. IsWithin l old.capacity) (sym same) was.within);
        digests = λ ok. subst AreUnderTheirDigests (sym same) (was.digests ok);
      }
  used_by (Some v) found checked was =
      kept-keeps checked d v old new (inl (used.newest v found)) used.capacity was (λ ok. found_by_digest d old.items (was.digests ok) v found)

  pub kept-used : (checked : Bool) → IsKept checked old → IsKept checked new
  kept-used = used_by (item_under old.items d) refl

  values_by : (o : Option (List ℕ)) → item_under old.items d ≡ o → (s : List ℕ) → Contains (values_of new.items) s → Contains (values_of old.items) s
  values_by None none s there = subst (λ l. Contains (values_of l) s) (used.none none) there
  values_by (Some v) found s there = elim (values-keeps old.capacity d v old.items new.items (inl (used.newest v found)) s there) [
    | inl was ↦ was
    | inr same ↦ subst (Contains (values_of old.items)) (sym same) (found_is_kept d old.items v found)
  ]

  pub values-used : (s : List ℕ) → Contains (values_of new.items) s → Contains (values_of old.items) s
  values-used = values_by (item_under old.items d) refl

-- an item that is kept has the digest
pub kept_has_digest : (checked : Bool) (d : List ℕ) (kept : Kept) (v : List ℕ) → IsKept checked kept → item_under kept.items d ≡ Some v → checked ≡ true → sha256 v ≡ d
kept_has_digest checked d kept v was found ok = found_by_digest d kept.items (was.digests ok) v found

-- ---- what the cache may give

abbrev seen : {S : Type 0} → S → Kept → Cache S
seen source kept = record { source = source; kept = kept.items; capacity = kept.capacity }

module _ {S : Type 0} (Gives : S → List ℕ → Type 0) (d : List ℕ) (old : Kept) (source : S) (cache : Cache S) (view : seen source old ≡ cache) where
  pub gives-kept : (v : List ℕ) → item_under old.items d ≡ Some v → MayGive Gives cache v
  gives-kept v found = subst (λ (m : Cache S). MayGive Gives m v) view (inr (found_is_kept d old.items v found))

  -- an item that is kept was used
  pub no_more-used : (new : Kept) → IsUsed d old new → (s : List ℕ) → MayGive Gives (seen source new) s → MayGive Gives cache s
  no_more-used new used s may = subst (λ (m : Cache S). MayGive Gives m s) view (elim may [
    | inl gives ↦ inl gives
    | inr there ↦ inr (values-used d old new used s there)
  ])

  -- the source was asked, and gave an item
  pub no_more-asked : (between new : Kept) (after : S) (v item : List ℕ) → IsUsed d old between → Keeps between.capacity d v between.items new.items → v ≡ item → Gives source item → ((s : List ℕ) → Gives after s → Gives source s)
      → (s : List ℕ) → MayGive Gives (seen after new) s → MayGive Gives cache s
  no_more-asked between new after v item used keeps same given fewer s may = subst (λ (m : Cache S). MayGive Gives m s) view (elim may [
    | inl gives ↦ inl (fewer s gives)
    | inr there ↦ elim (values-keeps between.capacity d v between.items new.items keeps s there) [
      | inl was ↦ inr (values-used d old between used s was)
      | inr is ↦ inl (subst (Gives source) (sym (is ∙ same)) given)
    ]
  ])

  -- the source took an item
  pub more-put : (new : Kept) (after : S) (v : List ℕ) → Keeps old.capacity d v old.items new.items → ((s : List ℕ) → Gives after s → Gives source s ⊎ (s ≡ v))
      → (s : List ℕ) → MayGive Gives (seen after new) s → MayGive Gives cache s ⊎ (s ≡ v)
  more-put new after v keeps more s may = subst (λ (m : Cache S). MayGive Gives m s ⊎ (s ≡ v)) view (elim may [
    | inl gives ↦ elim (more s gives) [ inl was ↦ inl (inl was) | inr is ↦ inr is ]
    | inr there ↦ elim (values-keeps old.capacity d v old.items new.items keeps s there) [ inl was ↦ inl (inr was) | inr is ↦ inr is ]
  ])
