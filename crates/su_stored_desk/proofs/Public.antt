-- What is known of a desk on trial by when its store was asked: for the proofs of who has one.
use Rattle.std.specs.Prelude.{◌≡◌, ℕ, List, [], ◌∷◌, ◌++◌, Contains}
use Rattle.std.specs.Global.{Vec}
use Rattle.std.specs.List.{AllByRecursion}
use Rattle.std.proofs.Common.{sym, ⊎_elim, inl, inr, subst}
use Rattle.std.proofs.lemmas.List.Elements.{All-contains, All-contains_itself, All-from_recursion, All-weaker, Contains-push_cases, recursion_from_All}
use Rattle.su_desk.specs.declared.entries.Entry.{Entry}
use Rattle.su_desk.specs.Applied.{tree_after}
use Rattle.su_part.specs.Bytes.{NoneClash}
use Rattle.su_part_forest.specs.Loading.{HashedFor}
use Rattle.su_stored_desk.specs.Asked.{Asks, GivesOnly, IsClear, NoneMixed, TrialOn}
use Rattle.su_stored_desk.specs.Right.{MayBecome}

all_before : {A : Type 0} (P : A → Type 0) (xs : List A) (x : A) → AllByRecursion P (xs ++ x ∷ []) → AllByRecursion P xs
all_before P [] x all = tt
all_before P (y ∷ xs) x all = (all.0, all_before P xs x all.1)

module _ {S : Type 0} {may_give : S → List ℕ → Type 0} {comes : S → S → Type 0} where
  -- ---- what has become of a store

  pub becomes_itself : ((s : S) → comes s s) → (s : S) → MayBecome may_give comes s s
  becomes_itself itself s = record { follows = itself s; no_more = λ i gives. gives }

  pub becomes_on : ((a b c : S) → comes a b → comes b c → comes a c) → (a b c : S) → MayBecome may_give comes a b → MayBecome may_give comes b c → MayBecome may_give comes a c
  becomes_on on a b c h k = record { follows = on a b c h.follows k.follows; no_more = λ i gives. h.no_more i (k.no_more i gives) }

  -- ---- what has become of a desk

  -- its store was asked once, as it was
  pub asks_once : (t u : TrialOn S) (a : S × Vec Entry) → u.state.settled.roster ≡ t.state.settled.roster → u.asked ≡ t.asked ++ a ∷ [] → a.0 ≡ t.source → MayBecome may_give comes t.source u.source → Asks may_give comes t u
  asks_once t u a same more is source = record {
    source = source;
    clear = λ clear.
        let P : S × Vec Entry → Type 0 = λ x. NoneClash (HashedFor (tree_after t.state.settled.roster x.1.items)) (may_give x.0) in
        all_before P t.asked a (subst (λ l. NoneMixed may_give t.state.settled.roster l) more (subst (λ ro. NoneMixed may_give ro u.asked) same clear));
    only = λ x was. ⊎_elim (λ before. inl before)
        (λ here. inr (λ i gives. subst (λ (s : S). may_give s i) is (subst (λ (y : S × Vec Entry). may_give y.0 i) (sym here) gives)))
        (Contains-push_cases t.asked a x (subst (λ (l : List (S × Vec Entry)). Contains l x) more was));
  }

  -- it wasn't noted that it was asked
  pub asks_no_more : (t u : TrialOn S) → u.state.settled.roster ≡ t.state.settled.roster → u.asked ≡ t.asked → MayBecome may_give comes t.source u.source → Asks may_give comes t u
  asks_no_more t u same asked source = record {
    source = source;
    clear = λ clear. subst (λ l. NoneMixed may_give t.state.settled.roster l) asked (subst (λ ro. NoneMixed may_give ro u.asked) same clear);
    only = λ x was. inl (subst (λ (l : List (S × Vec Entry)). Contains l x) asked was);
  }

  -- it wasn't asked
  pub asks_nothing : ((s : S) → comes s s) → (t u : TrialOn S) → u.state.settled.roster ≡ t.state.settled.roster → u.source ≡ t.source → u.asked ≡ t.asked → Asks may_give comes t u
  asks_nothing itself t u same source asked = asks_no_more t u same asked (subst (λ (s : S). MayBecome may_give comes t.source s) (sym source) (becomes_itself itself t.source))

  -- calls come behind calls
  pub asks_on : ((a b c : S) → comes a b → comes b c → comes a c) → (a b c : TrialOn S) → Asks may_give comes a b → Asks may_give comes b c → Asks may_give comes a c
  asks_on on a b c h k = record {
    source = becomes_on on a.source b.source c.source h.source k.source;
    clear = λ clear. h.clear (k.clear clear);
    only = λ x was. ⊎_elim (h.only x) (λ no_more. inr (λ i gives. h.source.no_more i (no_more i gives))) (k.only x was);
  }

  -- where its store might give only what meets P, so it was each time
  pub gives_only : (P : List ℕ → Type 0) (t u : TrialOn S) → Asks may_give comes t u → GivesOnly may_give P t → GivesOnly may_give P u
  gives_only P t u asks quiet =
      let Q : S × Vec Entry → Type 0 = λ x. (i : List ℕ) → may_give x.0 i → P i in
      let each : (x : S × Vec Entry) → Contains u.asked x → Q x
      = λ x was. ⊎_elim (λ before. All-contains Q t.asked x (All-from_recursion Q t.asked quiet.before) before) (λ no_more i gives. quiet.now i (no_more i gives)) (asks.only x was) in
      record {
        now = λ i gives. quiet.now i (asks.source.no_more i gives);
        before = recursion_from_All Q u.asked (All-weaker (Contains u.asked) Q each u.asked (All-contains_itself u.asked));
      }

-- what holds of each of some elements
all_weaker : {A : Type 0} (P Q : A → Type 0) (xs : List A) → ((x : A) → P x → Q x) → AllByRecursion P xs → AllByRecursion Q xs
all_weaker P Q [] f all = tt
all_weaker P Q (x ∷ xs) f all = (f x all.0, all_weaker P Q xs f all.1)

-- a store that never has anything to give mixes nothing up
pub quiet_is_clear : {S : Type 0} (may_give : S → List ℕ → Type 0) (t : TrialOn S) → GivesOnly may_give (λ i. ⊥) t → IsClear may_give t
quiet_is_clear {S} may_give t quiet =
    let P : S × Vec Entry → Type 0 = λ x. (i : List ℕ) → may_give x.0 i → ⊥ in
    let Q : S × Vec Entry → Type 0 = λ x. NoneClash (HashedFor (tree_after t.state.settled.roster x.1.items)) (may_give x.0) in
    all_weaker P Q t.asked (λ x none a b hashed given same. absurd (none b given)) quiet.before

-- a store that never gives anything, by its type, gave nothing
pub gives_never : {S : Type 0} (may_give : S → List ℕ → Type 0) → ((s : S) (i : List ℕ) → may_give s i → ⊥) → (t : TrialOn S) → GivesOnly may_give (λ i. ⊥) t
gives_never {S} may_give never t = record { now = never t.source; before = go t.asked }
  where
    go : (xs : List (S × Vec Entry)) → AllByRecursion (λ a. (i : List ℕ) → may_give a.0 i → ⊥) xs
    go [] = tt
    go (a ∷ xs) = (never a.0, go xs)
