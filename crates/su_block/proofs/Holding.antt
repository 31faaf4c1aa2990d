-- Items that are held under their digests.
use Rattle.std.proofs.Common.{◌≡◌, ℕ, ◌⊎◌, inl, inr, Bool, true, false, cond, List, [], ◌∷◌, refl, sym, ◌∙◌, ap, subst, arith}
use Rattle.std.specs.Prelude.{Option, Some, None, is_some, Contains}
use Rattle.std.specs.Ordering.{match_ordering, is_eq, nat_cmp}
use Rattle.std.specs.Cmp.Lexicographic.{slice_cmp, same_text}
use Rattle.std.proofs.lemmas.Map.Text.{is_eq-slice_cmp}
use Rattle.std.proofs.lemmas.Slice.Eq.{bytes_eq-Decides}
use Rattle.std.specs.Map.{lookup, values_of}
use Rattle.std.specs.declared.cmp.Ordering.{Ordering}
use Rattle.std.specs.declared.cmp.Ordering.TheVariants.{Less, Equal, Greater}
use Rattle.std.specs.BTreeMap.{insert_entry, is_at}
use Rattle.std.proofs.lemmas.List.Elements.{Contains-append_cases, Contains-append_right, Contains-push_cases}
use Rattle.sha2.specs.Sha256.{sha256}
use Rattle.std.specs.Option.{option_or}
use Rattle.std.specs.Str.{bytes_eq}
use Rattle.su_block.specs.Memory.{AreUnderTheirDigests, held_under, held_with}

abbrev Held : Type 0
Held = List (List ℕ × List ℕ)

-- an item of a longer list is its first one or one of the others
first_or : {A : Type 0} (x : A) (xs : List A) (s : A) → Contains (x ∷ xs) s → (x ≡ s) ⊎ Contains xs s
first_or x xs s there = elim (Contains-append_cases (x ∷ []) xs s there) [
  | inl first ↦ elim (Contains-push_cases [] x s first) [ inl none ↦ absurd (omega (arith, none.1)) | inr is ↦ inl is ]
  | inr other ↦ inr other
]

first : {A : Type 0} (x : A) (xs : List A) → Contains (x ∷ xs) x
first x xs = (0, omega arith, refl)

later : {A : Type 0} (x : A) (xs : List A) (s : A) → Contains xs s → Contains (x ∷ xs) s
later x xs s there = Contains-append_right (x ∷ []) xs s there

-- what a look-up of a first entry finds
pick : (b : Bool) (x v : List ℕ) (o : Option (List ℕ)) → cond b (Some x) o ≡ Some v → ((b ≡ true) × (x ≡ v)) ⊎ (o ≡ Some v)
pick true x v o e = inl (refl, cc)
pick false x v o e = inr e

missed : (b : Bool) (x : List ℕ) (o : Option (List ℕ)) → cond b (Some x) o ≡ None → (b ≡ false) × (o ≡ None)
missed true x o e = absurd (cc)
missed false x o e = (refl, e)

module _ (test : List ℕ → Bool) (d : List ℕ) where
  -- what is found under a digest has it, and is held
  pub found_has_digest : ((k : List ℕ) → test k ≡ true → k ≡ d) → (held : Held) → AreUnderTheirDigests held → (v : List ℕ) → lookup test held ≡ Some v → Contains (values_of held) v × (sha256 v ≡ d)
  found_has_digest same [] under v is = absurd (cc)
  found_has_digest same (e ∷ held) under v is =
      elim (pick (test e.0) e.1 v (lookup test held) is) [
        | inl here ↦ (subst (Contains (e.1 ∷ values_of held)) here.1 (first e.1 (values_of held)), ap sha256 (sym here.1) ∙ under.0 ∙ same e.0 here.0)
        | inr other ↦ (let more = found_has_digest same held under.1 v other in (later e.1 (values_of held) v more.0, more.1))
      ]

  -- where nothing is found, nothing with that digest is held
  pub none_has_digest : test d ≡ true → (held : Held) → AreUnderTheirDigests held → lookup test held ≡ None → (s : List ℕ) → Contains (values_of held) s → sha256 s ≡ d → ⊥
  none_has_digest at [] under none s there is = absurd (omega (arith, there.1))
  none_has_digest at (e ∷ held) under none s there is =
      let others = missed (test e.0) e.1 (lookup test held) none in
      elim (first_or e.1 (values_of held) s there) [
        | inl here ↦ (let no : false ≡ true = sym others.0 ∙ ap test (sym under.0 ∙ ap sha256 here ∙ is) ∙ at in absurd (cc))
        | inr other ↦ none_has_digest at held under.1 others.1 s other is
      ]

-- what holds whatever two keys compare to
ordered : (P : Held → Type 0) (o : Ordering) (a b c : Held) → (o ≡ Less → P a) → (o ≡ Equal → P b) → (o ≡ Greater → P c) → P (match_ordering o a b c)
ordered P Less a b c f g h = f refl
ordered P Equal a b c f g h = g refl
ordered P Greater a b c f g h = h refl

-- how one more item is held
module _ (cmp : List ℕ → List ℕ → Ordering) (k v : List ℕ) where
  pub under-insert : ((j : List ℕ) → cmp k j ≡ Equal → k ≡ j) → sha256 v ≡ k → (held : Held) → AreUnderTheirDigests held → AreUnderTheirDigests (insert_entry cmp held k v)
  under-insert same is [] under = (is, tt)
  under-insert same is (e ∷ held) (here, under) =
      ordered AreUnderTheirDigests (cmp k e.0) _ _ _ (λ _. (is, (here, under))) (λ equal. (is ∙ same e.0 equal, under)) (λ _. (here, under-insert same is held under))

  pub held-insert : (held : Held) → Contains (values_of (insert_entry cmp held k v)) v
  held-insert [] = first v []
  held-insert (e ∷ held) =
      ordered (λ es. Contains (values_of es) v) (cmp k e.0) _ _ _ (λ _. first v (e.1 ∷ values_of held)) (λ _. first v (values_of held)) (λ _. later e.1 (values_of (insert_entry cmp held k v)) v (held-insert held))

  pub kept-insert : (held : Held) → lookup (is_at (cmp k)) held ≡ None → (s : List ℕ) → Contains (values_of held) s → Contains (values_of (insert_entry cmp held k v)) s
  kept-insert [] none s there = absurd (omega (arith, there.1))
  kept-insert (e ∷ held) none s there =
      let others = missed (is_at (cmp k) e.0) e.1 (lookup (is_at (cmp k)) held) none in
      ordered (λ es. Contains (values_of es) s) (cmp k e.0) _ _ _
      (λ _. later v (e.1 ∷ values_of held) s there)
      (λ equal. let no : true ≡ false = sym (ap is_eq equal) ∙ others.0 in absurd (cc))
      (λ _. elim (first_or e.1 (values_of held) s there) [
        | inl here ↦ subst (Contains (e.1 ∷ values_of (insert_entry cmp held k v))) here (first e.1 (values_of (insert_entry cmp held k v)))
        | inr other ↦ later e.1 (values_of (insert_entry cmp held k v)) s (kept-insert held others.1 s other)
      ])

  pub more-insert : (held : Held) → (s : List ℕ) → Contains (values_of (insert_entry cmp held k v)) s → Contains (values_of held) s ⊎ (s ≡ v)
  more-insert [] s = λ there. elim (first_or v [] s there) [ inl is ↦ inr (sym is) | inr none ↦ inl none ]
  more-insert (e ∷ held) s =
      ordered (λ es. Contains (values_of es) s → Contains (e.1 ∷ values_of held) s ⊎ (s ≡ v)) (cmp k e.0) _ _ _
      (λ _ there. elim (first_or v (e.1 ∷ values_of held) s there) [ inl is ↦ inr (sym is) | inr other ↦ inl other ])
      (λ _ there. elim (first_or v (values_of held) s there) [ inl is ↦ inr (sym is) | inr other ↦ inl (later e.1 (values_of held) s other) ])
      (λ _ there. elim (first_or e.1 (values_of (insert_entry cmp held k v)) s there) [
        | inl here ↦ inl (subst (Contains (e.1 ∷ values_of held)) here (first e.1 (values_of held)))
        | inr other ↦ elim (more-insert held s other) [ inl old ↦ inl (later e.1 (values_of held) s old) | inr new ↦ inr new ]
      ])

-- ---- digests are compared byte by byte

pub same_digest : (d k : List ℕ) → is_at (slice_cmp nat_cmp d) k ≡ true → k ≡ d
same_digest d k is = sym (same_text d k (sym is ∙ is_eq-slice_cmp d k))

pub own_digest : (d : List ℕ) → is_at (slice_cmp nat_cmp d) d ≡ true
own_digest d = is_eq-slice_cmp d d ∙ (bytes_eq-Decides d d).1 refl

pub equal_digest : (d k : List ℕ) → slice_cmp nat_cmp d k ≡ Equal → d ≡ k
equal_digest d k equal = sym (same_digest d k (ap is_eq equal))

pub some_found : (o : Option (List ℕ)) → is_some o ≡ true → (v : List ℕ) × (o ≡ Some v)
some_found None is = absurd (cc)
some_found (Some v) is = (v, refl)

pub none_found : (o : Option (List ℕ)) → is_some o ≡ false → o ≡ None
none_found None is = refl
none_found (Some v) is = absurd (cc)

-- ---- what is held under a digest

abbrev has : List ℕ → List ℕ → Bool
has d item = bytes_eq d (sha256 item)

-- what is looked up by the digest is the item that has it
pub held_is : (d : List ℕ) (held : Held) → AreUnderTheirDigests held → lookup (is_at (slice_cmp nat_cmp d)) held ≡ held_under (values_of held) d
unfolding held_under
held_is d [] under = refl
held_is d (e ∷ held) under =
    let same : is_at (slice_cmp nat_cmp d) e.0 ≡ has d e.1 = is_eq-slice_cmp d e.0 ∙ ap (bytes_eq d) (sym under.0) in
    (λ i. cond (same i) (Some e.1) (held_is d held under.1 i))

none_more : (o : Option (List ℕ)) → o ≡ option_or o None
none_more None = refl
none_more (Some v) = refl

-- one item more in front of others, of which none has its digest
in_front : (b : Bool) (v : List ℕ) (o : Option (List ℕ)) → (b ≡ true → o ≡ None) → cond b (Some v) o ≡ option_or o (cond b (Some v) None)
in_front true v o none = sym (ap (λ p. option_or p (Some v)) (none refl))
in_front false v o none = none_more o

-- and behind an item
behind : (b : Bool) (x : List ℕ) (o p q : Option (List ℕ)) → o ≡ option_or p q → cond b (Some x) o ≡ option_or (cond b (Some x) p) q
behind true x o p q is = refl
behind false x o p q is = is

module _ (k v : List ℕ) (of_v : sha256 v ≡ k) where
  no_other : (held : Held) → AreUnderTheirDigests held → lookup (is_at (slice_cmp nat_cmp k)) held ≡ None → (d : List ℕ) → has d v ≡ true → held_under (values_of held) d ≡ None
  no_other held under none d is =
      let same : d ≡ k = same_text d (sha256 v) (sym is) ∙ of_v in
      ap (held_under (values_of held)) same ∙ sym (held_is k held under) ∙ none

  -- the items that are held with one more, under a digest under which there was none
  pub under_more : (held : Held) → AreUnderTheirDigests held → lookup (is_at (slice_cmp nat_cmp k)) held ≡ None → (d : List ℕ)
      → held_under (values_of (insert_entry (slice_cmp nat_cmp) held k v)) d ≡ held_with (held_under (values_of held)) v d
  unfolding held_under
  under_more [] under none d = refl
  under_more (e ∷ held) under none d =
      let others = missed (is_at (slice_cmp nat_cmp k) e.0) e.1 (lookup (is_at (slice_cmp nat_cmp k)) held) none in
      ordered (λ es. held_under (values_of es) d ≡ held_with (held_under (e.1 ∷ values_of held)) v d) (slice_cmp nat_cmp k e.0) _ _ _
      (λ _. in_front (has d v) v (held_under (e.1 ∷ values_of held) d) (no_other (e ∷ held) under none d))
      (λ equal. let no : true ≡ false = sym (ap is_eq equal) ∙ others.0 in absurd (cc))
      (λ _. behind (has d e.1) e.1 _ (held_under (values_of held) d) (held_under (v ∷ []) d) (under_more held under.1 others.1 d))

-- an item that is held already changes nothing
pub under_same : (held : List ℕ → Option (List ℕ)) (v w : List ℕ) → held (sha256 v) ≡ Some w → (d : List ℕ) → held d ≡ held_with held v d
unfolding held_under
under_same held v w is d = stays (has d v) refl where
  stays : (b : Bool) → has d v ≡ b → held d ≡ option_or (held d) (cond b (Some v) None)
  stays true same = let there : held d ≡ Some w = ap held (same_text d (sha256 v) (sym same)) ∙ is in rw there refl
  stays false same = none_more (held d)
