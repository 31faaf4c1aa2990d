-- What was noted is held, through what is written and noted.
use Rattle.std.proofs.Common.{◌≡◌, ℕ, zero, suc, ◌-◌, ◌<◌, Bool, true, false, cond, List, [], ◌∷◌, ◌++◌, length, Option, Some, None, refl, sym, ap, ◌∙◌, subst, inl, inr, get_or}
use Rattle.std.specs.Map.{lookup}
use Rattle.std.specs.Prelude.{is_some}
use Rattle.std.specs.Str.{bytes_eq}
use Rattle.std.proofs.Math.ListN.{set}
use Rattle.std.proofs.lemmas.Bool.{cases_eq, cases_lt}
use Rattle.std.proofs.lemmas.List.{reverse-append, get_or-set_same, get_or-set_other, get_or_past, get_or_append_left, get_or-append_right}
use Rattle.std.proofs.lemmas.Slice.Eq.{bytes_eq-Decides}
use Rattle.su_scratch.specs.declared.notes.Place.{Place}
use Rattle.su_scratch.specs.declared.notes.Note.{Note}
use Rattle.su_scratch.specs.Bucket.{bucket_of, InMemory, Pages, newest_of, found_on, Finds, found_with, Grows}
use Rattle.su_scratch.specs.Places.{Noted, place_under, no_notes, bucket_at, AreHeld}
use Rattle.su_scratch.proofs.BucketLemmas.{finds_still}

-- ---- a look-up

nothing_on : (d : List ℕ) (pages : Pages) → None ≡ newest_of pages → None ≡ found_on d pages
nothing_on d [] is = refl
nothing_on d (page ∷ older) is = let never : ⊥ = cc in absurd never

pub nothing_there : (d w : List ℕ) (p : Noted) → no_notes ≡ bucket_at p.buckets (bucket_of d) → AreHeld w p → None ≡ place_under p.noted d
nothing_there d w p none held =
    let f : Finds (bucket_of d) w no_notes (place_under p.noted) = subst (λ b. Finds (bucket_of d) w b (place_under p.noted)) (sym none) (held (bucket_of d)) in
    nothing_on d f.pages f.newest ∙ sym (f.each d refl)

-- at first nothing is held
pub held_at_first : (w : List ℕ) → AreHeld w (record { noted = []; buckets = [] })
held_at_first w = λ i. record { pages = []; newest = refl; are_written = tt; notes = tt; each = λ d of. refl }

-- ---- one note more

pub under_more : (noted : List (List ℕ × Place)) (n : Note) (d : List ℕ) → place_under (noted ++ (n.digest, n.place) ∷ []) d ≡ found_with (place_under noted) n d
under_more noted n d = ap (lookup (bytes_eq d)) (reverse-append noted ((n.digest, n.place) ∷ []))

pub finds_same : (i : ℕ) (w : List ℕ) (b : InMemory) (found other : List ℕ → Option Place) → ((d : List ℕ) → bucket_of d ≡ i → other d ≡ found d) → Finds i w b found → Finds i w b other
finds_same i w b found other same f = record {
  pages = f.pages;
  newest = f.newest;
  are_written = f.are_written;
  notes = f.notes;
  each = λ d of. same d of ∙ f.each d of;
}

missed : (b : Bool) (x y : Option Place) → (b ≡ true → ⊥) → cond b x y ≡ y
missed true x y never = absurd (never refl)
missed false x y never = refl

-- digests of other buckets are found as before
pub under_others : (noted : List (List ℕ × Place)) (n : Note) (i : ℕ) → (i ≡ bucket_of n.digest → ⊥) → (d : List ℕ) → bucket_of d ≡ i → place_under (noted ++ (n.digest, n.place) ∷ []) d ≡ place_under noted d
under_others noted n i other d of =
    under_more noted n d
    ∙ missed (bytes_eq d n.digest) (Some n.place) (place_under noted d)
    (λ is. other (sym of ∙ ap bucket_of ((bytes_eq-Decides d n.digest).0 is)))

-- a bucket is changed, and the others find what they did
pub held_with : (w w' : List ℕ) (old middle new : List InMemory) (index : ℕ) (b : InMemory) (found other : List ℕ → Option Place)
    → Grows w w' → ((i : ℕ) → bucket_at middle i ≡ bucket_at old i) → index < length middle → new ≡ set middle index b
    → Finds index w' b other
    → ((i : ℕ) → (i ≡ index → ⊥) → (d : List ℕ) → bucket_of d ≡ i → other d ≡ found d)
    → ((i : ℕ) → Finds i w (bucket_at old i) found)
    → (i : ℕ) → Finds i w' (bucket_at new i) other
held_with w w' old middle new index b found other grows same within is here others held i =
    elim (cases_eq i index) [
      | inl at ↦
          let there : bucket_at new i ≡ b = ap (λ bs. bucket_at bs i) is ∙ ap (λ k. bucket_at (set middle index b) k) at ∙ get_or-set_same middle index b no_notes within in
          subst (λ x. Finds i w' x other) (sym there) (subst (λ k. Finds k w' b other) (sym at) here)
      | inr apart ↦
          let there : bucket_at new i ≡ bucket_at old i = ap (λ bs. bucket_at bs i) is ∙ get_or-set_other middle index i b no_notes apart ∙ same i in
          subst (λ x. Finds i w' x other) (sym there) (finds_same i w' (bucket_at old i) found other (others i apart) (finds_still i w w' (bucket_at old i) found grows (held i)))
    ]

-- no bucket is changed
pub held_still : (w w' : List ℕ) (old new : List InMemory) (found : List ℕ → Option Place) → Grows w w' → ((i : ℕ) → bucket_at new i ≡ bucket_at old i) → ((i : ℕ) → Finds i w (bucket_at old i) found) → (i : ℕ) → Finds i w' (bucket_at new i) found
held_still w w' old new found grows same held i =
    subst (λ b. Finds i w' b found) (sym (same i)) (finds_still i w w' (bucket_at old i) found grows (held i))

-- ---- buckets without notes are made

alone : (k : ℕ) → get_or (no_notes ∷ []) k no_notes ≡ no_notes
alone zero = refl
alone (suc k) = refl

pub empty_more : (bs : List InMemory) (i : ℕ) → bucket_at (bs ++ no_notes ∷ []) i ≡ bucket_at bs i
empty_more bs i =
    elim (cases_lt i (length bs)) [
      | inl within ↦ get_or_append_left bs (no_notes ∷ []) no_notes i within
      | inr past ↦ get_or-append_right bs (no_notes ∷ []) (length bs) i no_notes refl past ∙ alone (i - length bs) ∙ sym (get_or_past bs i no_notes past)
    ]

-- what was noted last is there
pub noted_there : (noted new : List (List ℕ × Place)) (d : List ℕ) (place : Place) → new ≡ noted ++ (d, place) ∷ [] → is_some (place_under new d) ≡ true
noted_there noted new d place is =
    ap (λ x. is_some (place_under x d)) is ∙ ap is_some (under_more noted (record { digest = d; place = place }) d)
    ∙ ap (λ b. is_some (cond b (Some place) (place_under noted d))) ((bytes_eq-Decides d d).1 refl)

pub find_here : (d w : List ℕ) (p : Noted) (b : InMemory) (xs : List InMemory) (i : ℕ) → xs ≡ p.buckets → i ≡ bucket_of d → b ≡ get_or xs i no_notes → AreHeld w p → Finds (bucket_of d) w b (place_under p.noted)
find_here d w p b xs i same at is held =
    let all : b ≡ bucket_at p.buckets (bucket_of d) = is ∙ ap (λ ys. get_or ys i no_notes) same ∙ ap (bucket_at p.buckets) at in
    subst (λ x. Finds (bucket_of d) w x (place_under p.noted)) (sym all) (held (bucket_of d))
