-- What is copied, with one record more.
use Rattle.std.proofs.Common.{◌≡◌, ◌⊎◌, ℕ, ◌+◌, ◌<◌, ◌≤◌, List, [], ◌∷◌, ◌++◌, length, Some, None, get_or, refl, ap, sym, ◌∙◌, subst, arith, inl, inr, slice_get}
use Rattle.std.proofs.lemmas.Option.{none-some, slice_get_within, slice_get_cases, get_or_from_slice_get, slice_get-get_or}
use Rattle.std.proofs.lemmas.List.{length_push, get_or_push, get_or_append_left}
use Rattle.su_client.specs.Link.{LinkState}
use Rattle.su_keeper.specs.Kept.{KeptRecord}
use Rattle.su_shared.specs.Seats.{SeatView, known_at}
use Rattle.su_backup.specs.Copied.{Gives, GivesAll, Keeps, numbered, StoresOne, StoresAll, CopiesOne, CopiesSome, CopiesSomeAndKeeps}

pushed_by : {X : Type 0} (xs : List X) (y x : X) (k : ℕ) → slice_get (xs ++ y ∷ []) k ≡ Some x
    → ((w : X) × (k < length xs) × (slice_get xs k ≡ Some w) × (get_or xs k w ≡ w))
    ⊎ ((length xs ≤ k) × (slice_get xs k ≡ None))
    → (slice_get xs k ≡ Some x) ⊎ ((k ≡ length xs) × (x ≡ y))
pushed_by xs y x k was (inl (w, within, is, same)) =
    let here : get_or (xs ++ y ∷ []) k x ≡ x = get_or_from_slice_get (xs ++ y ∷ []) k x x was in
    let left : get_or (xs ++ y ∷ []) k x ≡ get_or xs k x =
    get_or_append_left xs (y ∷ []) x k within in
    inl (slice_get-get_or xs k x within ∙ ap Some (sym left ∙ here))
pushed_by xs y x k was (inr (past, none)) =
    let here : get_or (xs ++ y ∷ []) k x ≡ x = get_or_from_slice_get (xs ++ y ∷ []) k x x was in
    let within : k < length (xs ++ y ∷ []) = slice_get_within (xs ++ y ∷ []) k x was in
    let long : length (xs ++ y ∷ []) ≡ length xs + 1 = length_push xs y in
    let place : k ≡ length xs = omega arith in
    inr (place, sym here ∙ get_or_push xs y x k (sym place))

-- an element of a list with one more at its end is one of those before, or that one
pushed : {X : Type 0} (xs : List X) (y x : X) (k : ℕ) → slice_get (xs ++ y ∷ []) k ≡ Some x
    → (slice_get xs k ≡ Some x) ⊎ ((k ≡ length xs) × (x ≡ y))
pushed xs y x k was = pushed_by xs y x k was (slice_get_cases xs k).1

gives_more : (number : ℕ) (records : List KeptRecord) (n : ℕ) (bytes : KeptRecord) (a b c : LinkState)
    → GivesAll number records a b → n ≡ number + length records → Gives n bytes b c
    → GivesAll number (records ++ bytes ∷ []) a c
gives_more number [] n bytes a b c same place gives =
    let first : n ≡ number = omega arith in
    (c, subst (λ m. Gives m bytes a c) first (subst (λ l. Gives n bytes l c) same gives), refl)
gives_more number (first ∷ more) n bytes a b c (m, one, rest) place gives =
    let next : n ≡ number + 1 + length more = omega arith in
    (m, one, gives_more (number + 1) more n bytes m b c rest next gives)

knows_by : (number : ℕ) (records : List KeptRecord) (n : ℕ) (bytes : KeptRecord) (s t u : SeatView)
    → StoresAll number records s t → n ≡ number + length records → StoresOne n bytes t u
    → (k : ℕ) (x : KeptRecord) → (slice_get records k ≡ Some x) ⊎ ((k ≡ length records) × (x ≡ bytes))
    → known_at u.known (number + k) ≡ Some (numbered (number + k) x)
knows_by number records n bytes s t u all place one k x (inl was) =
    one.learns.keeps (number + k) (numbered (number + k) x) (all.knows k x was)
knows_by number records n bytes s t u all place one k x (inr (last, same)) =
    let here : n ≡ number + k = omega arith in
    subst (λ m. known_at u.known m ≡ Some (numbered m x)) here
    (subst (λ w. known_at u.known n ≡ Some (numbered n w)) (sym same) one.learns.knows)

stores_more : (number : ℕ) (records : List KeptRecord) (n : ℕ) (bytes : KeptRecord) (s t u : SeatView)
    → StoresAll number records s t → n ≡ number + length records → StoresOne n bytes t u
    → StoresAll number (records ++ bytes ∷ []) s u
stores_more number records n bytes s t u all place one =
    let long : length (records ++ bytes ∷ []) ≡ length records + 1 = length_push records bytes in
    record {
      stored = omega (arith, all.stored, one.stored, long);
      known = λ m r was. one.learns.keeps m r (all.known m r was);
      knows = λ k x was. knows_by number records n bytes s t u all place one k x (pushed records bytes x k was);
    }

-- nothing is copied yet
pub copies_none : (a : LinkState) (s : SeatView) → CopiesSome a a s s
copies_none a s = record {
  records = [];
  given = refl;
  stores = record { stored = omega arith; known = λ m r was. was; knows = λ k x was. absurd (none-some x was) };
}

-- one record more
pub copies_more : (n : ℕ) (a b c : LinkState) (s t u : SeatView) → CopiesSome a b s t
    → n ≡ t.kept.stored + 1 → CopiesOne n b c t u → CopiesSome a c s u
copies_more n a b c s t u some place (bytes, gives, stores) =
    let next : n ≡ s.kept.stored + 1 + length some.records = omega (arith, some.stores.stored) in
    record {
      records = some.records ++ bytes ∷ [];
      given = gives_more (s.kept.stored + 1) some.records n bytes a b c some.given next gives;
      stores = stores_more (s.kept.stored + 1) some.records n bytes s t u some.stores next stores;
    }

-- what is stored stays, whatever comes then
pub copies_kept : (a b : LinkState) (s t u : SeatView) → CopiesSome a b s t → Keeps t u
    → CopiesSomeAndKeeps a s u
copies_kept a b s t u some keeps = record { last = b; seat = t; copies = some; keeps = keeps }
