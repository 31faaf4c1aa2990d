-- A keeper that keeps one record more, and the pages that it reads.
use Rattle.std.proofs.Common.{◌≡◌, ◌⊎◌, ◌∙◌, sym, ap, subst, refl, ℕ, zero, suc, ◌+◌, ◌<◌, Bool, false, List, [], ◌∷◌, ◌++◌, length, get_or, take, drop, map, Some, inl, inr, arith}
use Rattle.std.specs.Prelude.{slice_get, Contains}
use Rattle.std.specs.Global.{Vec}
use Rattle.std.proofs.lemmas.List.Elements.{Contains-append_right}
use Rattle.std.proofs.lemmas.List.{take_more, map-append, length-map, length-drop, get_or-map}
use Rattle.sha2.specs.Sha256.{sha256}
use Rattle.su_keeper.specs.Kept.{KeptRecord}
use Rattle.su_engine_keeper.specs.Keys.{record_key, item_key}
use Rattle.su_engine_keeper.specs.Kept.{Keeps}
use Rattle.su_engine.specs.Pairs.{pairs_of}
use Rattle.su_engine.specs.declared.engines.Pair.{Pair}

-- what stands in a list with one more behind it
pub pushed : {X : Type 0} (xs : List X) (y x : X) (i : ℕ) → slice_get (xs ++ y ∷ []) i ≡ Some x
    → (slice_get xs i ≡ Some x) ⊎ ((i ≡ length xs) × (y ≡ x))
pushed [] y x zero is = inr (refl, cc)
pushed [] y x (suc i) is = absurd cc
pushed (z ∷ xs) y x zero is = inl is
pushed (z ∷ xs) y x (suc i) is =
    elim (pushed xs y x i is) [ inl was ↦ inl was | inr last ↦ inr (ap suc last.0, last.1) ]

module _ (has has' : List ℕ → List ℕ → Type 0) (stays : (k v : List ℕ) → has k v → has' k v) where
  -- a record is kept with its items, and these were found behind it
  pub grows : (halted : Bool) (count count' : ℕ) (next : count' ≡ count + 1) (found found' : List (Vec ℕ)) (records : List KeptRecord) (added : KeptRecord) → Keeps has false count found records
      → has' (record_key (count + 1)) added.commit → ((item : List ℕ) → Contains added.items item → has' (item_key (sha256 item)) item)
      → ((i : ℕ) (r : Vec ℕ) → slice_get found' i ≡ Some r → has' (record_key (count + 1 + 1 + i)) r.items)
      → Keeps has' halted count' found' (records ++ added ∷ [])
  grows halted count count' next found found' records added kept commit items ahead = record {
    each = λ i r at. elim (pushed records added r i at) [
      | inl was ↦ stays (record_key (i + 1)) r.commit (kept.each i r was)
      | inr last ↦ (
          let n : count ≡ i = kept.counted refl ∙ sym last.0 in
          subst (λ (k : KeptRecord). has' (record_key (i + 1)) k.commit) last.1 (subst (λ (n : ℕ). has' (record_key (n + 1)) added.commit) n commit))
    ];
    items = λ i r at item of. elim (pushed records added r i at) [
      | inl was ↦ stays (item_key (sha256 item)) item (kept.items i r was item of)
      | inr last ↦ items item (subst (λ (k : KeptRecord). Contains k.items item) (sym last.1) of)
    ];
    counted = λ on. next ∙ ap (λ n. n + 1) (kept.counted refl) ∙ sym (length-pushed records);
    ahead = λ on i r at.
        let n : count + 1 + 1 + i ≡ count' + 1 + i = omega (arith, next) in
        subst (λ (n : ℕ). has' (record_key n) r.items) n (ahead i r at);
  }
    where
      length-pushed : (rs : List KeptRecord) → length (rs ++ added ∷ []) ≡ length rs + 1
      length-pushed [] = refl
      length-pushed (r ∷ rs) = let e = length-pushed rs in omega arith

-- behind the first of what was found
pub behind_first : (has : List ℕ → List ℕ → Type 0) (count : ℕ) (first : Vec ℕ) (rest : List (Vec ℕ))
    → ((i : ℕ) (r : Vec ℕ) → slice_get (first ∷ rest) i ≡ Some r → has (record_key (count + 1 + i)) r.items)
    → (i : ℕ) (r : Vec ℕ) → slice_get rest i ≡ Some r → has (record_key (count + 1 + 1 + i)) r.items
behind_first has count first rest ahead i r at =
    let n : count + 1 + suc i ≡ count + 1 + 1 + i = omega arith in
    subst (λ (n : ℕ). has (record_key n) r.items) n (ahead (suc i) r at)

abbrev pub bytes : Vec ℕ → List ℕ
bytes item = item.items

-- an item under the key of its digest
abbrev pub keyed : Vec ℕ → List ℕ × List ℕ
keyed item = (item_key (sha256 item.items), item.items)

-- an item is among those that came, each under its digest
item_at : (items : List (Vec ℕ)) (item : List ℕ) (k : ℕ) → k < length (map bytes items) → get_or (map bytes items) k item ≡ item
    → (k < length (map keyed items))
    × (get_or (map keyed items) k (item_key (sha256 item), item) ≡ (item_key (sha256 item), item))
item_at [] item k within is = absurd (omega arith)
item_at (x ∷ xs) item zero within is = (omega arith, ap (λ (i : List ℕ). (item_key (sha256 i), i)) is)
item_at (x ∷ xs) item (suc k) within is =
    let rest = item_at xs item k (omega arith) is in
    let less : k < length (map keyed xs) = rest.0 in
    (omega arith, rest.1)

pub item_among : (items : List (Vec ℕ)) (item : List ℕ) → Contains (map bytes items) item
    → Contains (map keyed items) (item_key (sha256 item), item)
item_among items item among = let rest = item_at items item among.0 among.1 among.2 in (among.0, rest.0, rest.1)

-- a pair is among the bytes of its list
pub pair_among : (pairs : List Pair) (i : ℕ) (pair : Pair) → i < length pairs → pair ≡ get_or pairs i pair
    → Contains (pairs_of pairs) (pair.key.items, pair.value.items)
pair_among pairs i pair within is =
    let g : Pair → List ℕ × List ℕ = λ p. (p.key.items, p.value.items) in
    let len : length (map g pairs) ≡ length pairs = length-map pairs g in
    (i, omega arith, get_or-map g pairs i pair (g pair) within ∙ ap g (sym is))

-- items that came under their digests, and one more
pub items_more : (items : List (Vec ℕ)) (i : ℕ) (item : Vec ℕ) (pairs : List Pair) (pair : Pair) → i < length items → item ≡ get_or items i item
    → pairs_of pairs ≡ map keyed (take i items)
    → pair.key.items ≡ item_key (sha256 item.items) → pair.value.items ≡ item.items
    → pairs_of (pairs ++ pair ∷ []) ≡ map keyed (take (i + 1) items)
items_more items i item pairs pair within is before key value =
    let g : Pair → List ℕ × List ℕ = λ p. (p.key.items, p.value.items) in
    let f : Vec ℕ → List ℕ × List ℕ = keyed in
    let one : g pair ≡ f item = ap (λ (k : List ℕ). (k, pair.value.items)) key ∙ ap (λ (v : List ℕ). (item_key (sha256 item.items), v)) value in
    let more : take (i + 1) items ≡ take i items ++ item ∷ [] =
    subst (λ (v : Vec ℕ). take (i + 1) items ≡ take i items ++ v ∷ []) (sym is) (take_more items i item within) in
    map-append g pairs (pair ∷ []) ∙ ap (λ (ps : List (List ℕ × List ℕ)). ps ++ g pair ∷ []) before ∙ ap (λ (p : List ℕ × List ℕ). map f (take i items) ++ p ∷ []) one
    ∙ sym (map-append f (take i items) (item ∷ [])) ∙ ap (map f) (sym more)

-- what a page gave stands behind what was counted, and one more
abbrev pub IsOfPage : List Pair → ℕ → List (Vec ℕ) → Type 0
IsOfPage pairs count found =
    (i : ℕ) (r : Vec ℕ) → slice_get found i ≡ Some r → Contains (pairs_of pairs) (record_key (count + 1 + i), r.items)

pub page_more : (pairs : List Pair) (count i number : ℕ) (pair : Pair) (found : List (Vec ℕ)) (record' : Vec ℕ) → i < length pairs → pair ≡ get_or pairs i pair
    → length found ≡ i → number ≡ count + i + 1 → pair.key.items ≡ record_key number → record'.items ≡ pair.value.items → IsOfPage pairs count found
    → IsOfPage pairs count (found ++ record' ∷ [])
page_more pairs count i number pair found record' within is long next key value before j r at =
    elim (pushed found record' r j at) [
      | inl was ↦ before j r was
      | inr last ↦ (
          let n : number ≡ count + 1 + j = omega (arith, last.0, long, next) in
          let k : pair.key.items ≡ record_key (count + 1 + j) = key ∙ ap record_key n in
          let v : pair.value.items ≡ r.items = sym value ∙ ap (λ (x : Vec ℕ). x.items) last.1 in
          subst (λ (p : List ℕ × List ℕ). Contains (pairs_of pairs) p)
          (ap (λ (x : List ℕ). (x, pair.value.items)) k ∙ ap (λ (x : List ℕ). (record_key (count + 1 + j), x)) v)
          (pair_among pairs i pair within is))
    ]

-- what was put is the record and its items
pub all_made : (has : List ℕ → List ℕ → Type 0) (first : Pair) (beside : List Pair) (items : List (Vec ℕ)) (count number : ℕ) (commit : List ℕ)
    → ((p : List ℕ × List ℕ) → Contains ((first.key.items, first.value.items) ∷ pairs_of beside) p → has p.0 p.1)
    → first.key.items ≡ record_key number → first.value.items ≡ commit → number ≡ count + 1 → pairs_of beside ≡ map keyed items
    → has (record_key (count + 1)) commit × ((item : List ℕ) → Contains (map bytes items) item → has (item_key (sha256 item)) item)
all_made has first beside items count number commit made key value next are =
    let one : List ℕ × List ℕ = (first.key.items, first.value.items) in
    let begins : Contains (one ∷ pairs_of beside) one = (0, omega arith, refl) in
    let k : first.key.items ≡ record_key (count + 1) = key ∙ ap record_key next in (
      subst (λ (v : List ℕ). has (record_key (count + 1)) v) value (subst (λ (k : List ℕ). has k first.value.items) k (made one begins)),
      λ item among.
          let p : List ℕ × List ℕ = (item_key (sha256 item), item) in
          let of : Contains (pairs_of beside) p = subst (λ (ps : List (List ℕ × List ℕ)). Contains ps p) (sym are) (item_among items item among) in
          made p (Contains-append_right (one ∷ []) (pairs_of beside) p of),
    )

-- a list that is itself without its first element has none
pub none_left : (xs : List (Vec ℕ)) → xs ≡ drop 1 xs → xs ≡ []
none_left [] is = refl
none_left (x ∷ xs) is = absurd (let e : length (x ∷ xs) ≡ length (drop 1 (x ∷ xs)) = ap length is in omega (arith, length-drop 1 (x ∷ xs)))

pub none_there : (xs : List (Vec ℕ)) → length xs ≡ 0 → xs ≡ []
none_there [] is = refl
none_there (x ∷ xs) is = absurd (omega arith)

pub none_among : (items : List (Vec ℕ)) (item : List ℕ) → length items ≡ 0 → Contains (map bytes items) item → ⊥
none_among items item none (k, within, is) = omega (arith, length-map items bytes)

-- the first of what was found is the record, and no item came with it
pub first_is : (has : List ℕ → List ℕ → Type 0) (count : ℕ) (first : Vec ℕ) (rest : List (Vec ℕ)) (commit : List ℕ) → first.items ≡ commit
    → ((i : ℕ) (r : Vec ℕ) → slice_get (first ∷ rest) i ≡ Some r → has (record_key (count + 1 + i)) r.items) → has (record_key (count + 1)) commit
first_is has count first rest commit is ahead =
    let n : count + 1 + 0 ≡ count + 1 = omega arith in
    subst (λ (v : List ℕ). has (record_key (count + 1)) v) is (subst (λ (n : ℕ). has (record_key n) first.items) n (ahead 0 first refl))
