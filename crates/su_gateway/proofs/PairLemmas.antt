-- A list of pairs with one more.
use Rattle.std.proofs.Common.{◌≡◌, ◌∙◌, sym, ap, subst, refl, ℕ, ◌+◌, ◌<◌, List, [], ◌∷◌, ◌++◌, length, get_or, take, map, inl, inr}
use Rattle.std.specs.Prelude.{flat_map, Contains}
use Rattle.std.proofs.lemmas.List.{take_more, map-append}
use Rattle.std.proofs.lemmas.List.Concat.{flat_map-append}
use Rattle.std.proofs.lemmas.List.Elements.{Contains-push_cases}
use Rattle.su_engine.specs.Pairs.{pairs_of}
use Rattle.su_engine.specs.declared.engines.Pair.{Pair}

append-nil : {X : Type 0} (xs : List X) → xs ++ [] ≡ xs
append-nil [] = refl
append-nil (x ∷ xs) = ap (λ l. x ∷ l) (append-nil xs)

-- what is written of the pairs, and of one more
pub flat_map_pairs : (f : List ℕ × List ℕ → List ℕ) (pairs : List Pair) (i : ℕ) (pair : Pair) → i < length pairs → pair ≡ get_or pairs i pair
    → flat_map f (pairs_of (take (i + 1) pairs)) ≡ flat_map f (pairs_of (take i pairs)) ++ f (pair.key.items, pair.value.items)
flat_map_pairs f pairs i pair within is =
    let g : Pair → List ℕ × List ℕ = λ p. (p.key.items, p.value.items) in
    let more : take (i + 1) pairs ≡ take i pairs ++ pair ∷ [] =
    subst (λ (p : Pair). take (i + 1) pairs ≡ take i pairs ++ p ∷ []) (sym is) (take_more pairs i pair within) in
    ap (λ (ps : List Pair). flat_map f (map g ps)) more ∙ ap (flat_map f) (map-append g (take i pairs) (pair ∷ []))
    ∙ flat_map-append f (map g (take i pairs)) (g pair ∷ []) ∙ ap (λ l. flat_map f (map g (take i pairs)) ++ l) (append-nil (f (g pair)))

-- each of the pairs is listed, and one more
pub each_listed : (Is : List ℕ × List ℕ → Type 0) (pairs : List Pair) (pair : Pair) → ((p : List ℕ × List ℕ) → Contains (pairs_of pairs) p → Is p)
    → Is (pair.key.items, pair.value.items) → (p : List ℕ × List ℕ) → Contains (pairs_of (pairs ++ pair ∷ [])) p → Is p
each_listed Is pairs pair each one p has =
    let g : Pair → List ℕ × List ℕ = λ q. (q.key.items, q.value.items) in
    let has' : Contains (map g pairs ++ g pair ∷ []) p = subst (λ (ps : List (List ℕ × List ℕ)). Contains ps p) (map-append g pairs (pair ∷ [])) has in
    elim (Contains-push_cases (map g pairs) (g pair) p has') [ inl was ↦ each p was | inr same ↦ subst Is same one ]
