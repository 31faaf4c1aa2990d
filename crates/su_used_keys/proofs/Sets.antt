-- Which keys a set has after one was added or removed.
use Rattle.std.proofs.Common.{◌≡◌, ◌+◌, ◌<◌, ℕ, Bool, true, false, cond, ◌||◌, List, [], ◌∷◌, ◌++◌, length, map, take, get_or, nat_eq, refl, sym, ap, ◌∙◌}
use Rattle.std.specs.List.{list_any}
use Rattle.std.specs.Cmp.Lexicographic.{pointwise, bytes_decides}
use Rattle.std.proofs.lemmas.List.Folds.{list_any-append}
use Rattle.std.proofs.lemmas.List.{take_more, map-append}
use Rattle.su_bytes.specs.Keys.{is_among}
use Rattle.su_bytes.specs.Roster.{users_of}
use Rattle.su_bytes.specs.declared.rosters.RosterUser.{RosterUser}

true_or_false : (b : Bool) (P : Type 0) → (b ≡ true → P) → (b ≡ false → P) → P
true_or_false b P holds fails = go b refl
  where
    go : (a : Bool) → b ≡ a → P
    go true is = holds is
    go false is = fails is

same_truth : (a b : Bool) → (a ≡ true → b ≡ true) → (b ≡ true → a ≡ true) → a ≡ b
same_truth a b there back = go a b refl refl
  where
    go : (x y : Bool) → a ≡ x → b ≡ y → a ≡ b
    go true y ax by = ax ∙ sym (there ax)
    go false true ax by = back by ∙ sym by
    go false false ax by = ax ∙ sym by

-- equality of keys is symmetric
same_key-sym : (x y : List ℕ) → pointwise nat_eq x y ≡ pointwise nat_eq y x
same_key-sym x y =
    same_truth (pointwise nat_eq x y) (pointwise nat_eq y x)
    (λ e. (bytes_decides y x).1 (sym ((bytes_decides x y).0 e)))
    (λ e. (bytes_decides x y).1 (sym ((bytes_decides y x).0 e)))

or_cond : (a b : Bool) → cond b true a ≡ (a || (b || false))
or_cond true true = refl
or_cond true false = refl
or_cond false true = refl
or_cond false false = refl

or_false : (a : Bool) → (a || (false || false)) ≡ a
or_false true = refl
or_false false = refl

-- with one key more
pub among_more : (keys : List (List ℕ)) (key q : List ℕ)
    → is_among (keys ++ key ∷ []) q ≡ (is_among keys q || (pointwise nat_eq key q || false))
among_more keys key q =
    list_any-append (pointwise nat_eq q) keys (key ∷ [])
    ∙ ap (λ b. is_among keys q || (b || false)) (same_key-sym q key)

-- a set that a key was added to
pub added : (keys old new : List (List ℕ)) (key : List ℕ)
    → ((q : List ℕ) → is_among new q ≡ cond (pointwise nat_eq key q) true (is_among old q))
    → ((q : List ℕ) → is_among old q ≡ is_among keys q)
    → (q : List ℕ) → is_among new q ≡ is_among (keys ++ key ∷ []) q
added keys old new key updates has q =
    updates q ∙ ap (λ b. cond (pointwise nat_eq key q) true b) (has q)
    ∙ or_cond (is_among keys q) (pointwise nat_eq key q) ∙ sym (among_more keys key q)

-- a set that a key was removed from, which none of the others is
pub removed : (keys old new : List (List ℕ)) (key : List ℕ) → is_among keys key ≡ false
    → ((q : List ℕ) → is_among new q ≡ cond (pointwise nat_eq key q) false (is_among old q))
    → ((q : List ℕ) → is_among old q ≡ is_among (keys ++ key ∷ []) q)
    → (q : List ℕ) → is_among new q ≡ is_among keys q
removed keys old new key other updates has q =
    true_or_false (pointwise nat_eq key q) (is_among new q ≡ is_among keys q)
    (λ same. updates q ∙ ap (λ b. cond b false (is_among old q)) same
    ∙ sym other ∙ ap (λ k. is_among keys k) ((bytes_decides key q).0 same))
    (λ differs. updates q ∙ ap (λ b. cond b false (is_among old q)) differs ∙ has q ∙ among_more keys key q
    ∙ ap (λ b. is_among keys q || (b || false)) differs ∙ or_false (is_among keys q))

-- the keys of these users
abbrev pub keys_of : List RosterUser → List (List ℕ)
keys_of users = map (λ u. u.1) (users_of users)

-- of the first users, with one more
pub keys_more : (users : List RosterUser) (i : ℕ) (d : RosterUser) → i < length users
    → keys_of (take (i + 1) users) ≡ keys_of (take i users) ++ (get_or users i d).key ∷ []
keys_more users i d less =
    ap keys_of (take_more users i d less)
    ∙ ap (λ us. map (λ u. u.1) us) (map-append (λ u. (u.user, u.key)) (take i users) (get_or users i d ∷ []))
    ∙ map-append (λ u. u.1) (users_of (take i users)) (users_of (get_or users i d ∷ []))
